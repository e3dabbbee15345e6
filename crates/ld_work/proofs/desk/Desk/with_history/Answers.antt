use Rattle.std.proofs.Common.{Some, ap, option_map, sym, ◌∙◌}
use Rattle.ld_work.specs.Inner.Seen.{entries_of}
use Rattle.ld_work.proofs.desk.Desk.with_history.Goals as goal

pub invariant_of-new : goal.invariant_of-new
invariant_of-new g c =
    ap Some (c.named.ensures ∙ ap entries_of (sym c.in_ok-locked.ensures.book))
    ∙ ap (option_map (λ _. entries_of c.in_ok-locked.locked)) (sym c.requires.history)
