use Rattle.std.proofs.Common.{map, rules, subst, sym, ◌≡◌}
use Rattle.ld_trace.specs.Sources.{AreNumbered, plain, sources}
use Rattle.ld_trace.proofs.NumberLemmas.{numbered}
use Rattle.ld_pieces.proofs.pieces.Pieces.traces.Goals as goal

pub returns-then-len-le-LONGEST_STREAM-clause-numbered : goal.returns-then-len-le-LONGEST_STREAM-clause-numbered
returns-then-len-le-LONGEST_STREAM-clause-numbered c =
    let whole : map plain c.deref.result.now ≡ sources c.args.self.now = search rules in
    subst AreNumbered (sym whole) (numbered c.args.self.now)
