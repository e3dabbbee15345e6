use Rattle.std.proofs.Common.{◌≡◌, OnOk, map, subst, ◌∙◌}
use Rattle.ld_tables.specs.Inner.Locks.{HeldByTasks, Tells, inner_of}
use Rattle.ld_tables.proofs.locks.Locks.tell.Goals as goal
use Rattle.ld_tables.proofs.locks.Locks.tell.Goals.{then-is_unlinked+in_ok-relink, else-is_unlinked}

pub returns-clause-told : goal.returns-clause-told
returns-clause-told c =
    let unchanged : c.if-is_unlinked.self ≡ c.args.self.now = elim c.if-is_unlinked.branch [ then-is_unlinked+in_ok-relink w ↦ w.self-is ∙ w.in_ok-relink.ensures.same | else-is_unlinked w ↦ w.self-is ] in
    subst (λ (k : HeldByTasks). OnOk c.tell_linked.result (Tells (map (λ hold. hold.class) (inner_of k c.args.task)) c.args.class c.args.line k c.tell_linked.new.self)) unchanged c.tell_linked.ensures.told
