use Rattle.std.proofs.Common.{◌∙◌, arith, ap, length, map}
use Rattle.std.proofs.lemmas.List.{length-map}
use Rattle.ld_trace.specs.Sources.{plain}
use Rattle.ld_pieces.specs.Pieces.{moved}
use Rattle.ld_pieces.proofs.PieceLemmas.{no-fault, written}
use Rattle.ld_pieces.proofs.cut.cut_behind.Goals as goal

pub returns-clause-cut : goal.returns-clause-cut
returns-clause-cut c = record {
  faultless = no-fault c.args.piece.now c.split.result c.in-Ok.sources c.split.ensures.fault c.in-Ok.is;
  same =
      ap (map plain) (written c.in-Ok.sources.items c.move_on.new.sources c.in-Ok.sources.len (omega (arith, c.in-Ok.sources.ok.0)) (c.move_on.auto.sources ∙ ap length c.deref_mut.ensures.value))
      ∙ c.move_on.ensures
      ∙ ap (λ found. map (moved c.args.traces c.args.lines) (map plain found)) c.deref_mut.ensures.value
      ∙ ap (map (moved c.args.traces c.args.lines)) c.in-Ok.ensures.sources;
  few = omega (arith, c.if-len-traces.false, c.requires.traces, ap length c.in-Ok.ensures.sources, length-map c.in-Ok.sources.items plain);
}
