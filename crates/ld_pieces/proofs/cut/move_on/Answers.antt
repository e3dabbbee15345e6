use Rattle.std.proofs.Common.{◌<◌, [], ap, arith, length, take}
use Rattle.std.proofs.lemmas.List.{take_more_set}
use Rattle.std.proofs.lemmas.List.Elements.{All-get_or}
use Rattle.ld_trace.specs.declared.source.Source.{Source}
use Rattle.ld_trace.specs.Sources.{Fits, plain}
use Rattle.ld_pieces.specs.Pieces.{moved}
use Rattle.ld_pieces.proofs.PieceLemmas.{moved-more, moved-whole, same-at, same-behind}
use Rattle.ld_pieces.proofs.cut.move_on.Goals as goal

abbrev none : Source
none = record { number = 0; name = record { ref_ptr = (0, 0); now = [] }; first_line = 0; bytes = record { ref_ptr = (0, 0); now = [] } }

pub overflow_add-source : goal.overflow_add-source
overflow_add-source c =
    let i = c.loop-source.source-index in
    let old = c.args.sources.now in
    let fits = All-get_or (λ (s : Source). Fits (plain s)) old i none (omega (arith, c.loop-source-test.true, c.loop-source.auto.sources)) c.requires.fit in
    let same = same-at c.loop-source.sources old i none c.loop-source.invariant.rest in
    record { fits = omega (arith, fits.number, c.requires.traces, ap (λ (s : Source). s.number) same) }

pub overflow_add-source-in-loop-source : goal.overflow_add-source-in-loop-source
overflow_add-source-in-loop-source c =
    let i = c.loop-source.source-index in
    let old = c.args.sources.now in
    let fits = All-get_or (λ (s : Source). Fits (plain s)) old i none (omega (arith, c.loop-source-test.true, c.loop-source.auto.sources)) c.requires.fit in
    let same = same-at c.loop-source.sources old i none c.loop-source.invariant.rest in
    record { fits = omega (arith, fits.to_line, c.requires.lines, ap (λ (s : Source). s.first_line) same) }

pub loop-source-preserved : goal.loop-source-preserved
loop-source-preserved c =
    let i = c.loop-source.source-index in
    let old = c.args.sources.now in
    let now = c.loop-source.sources in
    let within : i < length now = omega (arith, c.loop-source-test.true) in
    let same = same-at now old i none c.loop-source.invariant.rest in
    record {
      front = moved-more c.args.traces c.args.lines old (take i now) _ i none _ (omega (arith, within, c.loop-source.auto.sources)) c.loop-source.invariant.front
          (ap (λ (s : Source). moved c.args.traces c.args.lines (plain s)) same) (take_more_set now i _ within);
      rest = same-behind now old i _ c.loop-source.invariant.rest;
    }

pub returns : goal.returns
returns c =
    moved-whole c.args.traces c.args.lines c.args.sources.now c.loop-source.sources c.loop-source.source-index
    (omega (arith, c.loop-source-test.false, c.loop-source.auto.sources)) c.loop-source.auto.sources c.loop-source.invariant.front
