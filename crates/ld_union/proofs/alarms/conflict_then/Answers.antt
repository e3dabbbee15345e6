use Rattle.std.proofs.Common.{◌∙◌, sym}
use Rattle.ld_union.specs.Inner.Numbers.{IsConflictAt}
use Rattle.ld_union.specs.Usage.{bits_of}
use Rattle.ld_union.proofs.FoundLemmas.{conflict_kept, conflict_looked, stays}
use Rattle.ld_union.proofs.alarms.conflict_then.Goals as goal

pub returns-then-is_some : goal.returns-then-is_some
returns-then-is_some c = λ usage tells exact.
    let now = bits_of c.args.rows.now in
    let state = c.args.state in
    stays (IsConflictAt usage state) (IsConflictAt now state) (conflict_kept state usage now tells.kept) c.args.found exact (sym c.is_some.ensures ∙ c.if-is_some.true)

pub returns : goal.returns
returns c = λ usage tells exact.
    conflict_looked usage (bits_of c.args.rows.now) c.args.bits.now tells c.args.state
    c.args.found (sym c.is_some.ensures ∙ c.if-is_some.false) exact c.conflict_among.result c.conflict_among.ensures
