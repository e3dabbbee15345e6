use Rattle.std.proofs.Common.{◌≡◌, ◌⊎◌, inl, ◌++◌, ◌∙◌, [], All, subst, sym}
use Rattle.std.proofs.lemmas.List.Elements.{All-nil}
use Rattle.std.specs.List.{Contains}
use Rattle.ld_batch.specs.Batch.{PlainShown, nothing_shown}
use Rattle.ld_work.specs.Inner.Seen.{entries_of}
use Rattle.ld_work.proofs.SeenLemmas.{told-on}
use Rattle.ld_work.proofs.told.Told.hand_on.Goals as goal

pub invariant_of-self : goal.invariant_of-self
invariant_of-self g c =
    let i = c.self.invariant in
    let before = sym c.submit_next-answer.ensures.series in
    let on = told-on g.S.Scope.may_list c.submit_next-answer.new.front c.submit_next-answer.new.series c.pass_on.new.self
    (subst (λ (s : PlainShown). All (Contains c.submit_next-answer.new.front) (entries_of (s.behind ++ s.sources))) before c.in-Ok.ensures.seen)
    c.pass_on.ensures in
    (i.0, on.0, on.1)

pub returns-in-Ok : goal.returns-in-Ok
returns-in-Ok g c =
    subst (λ (s : PlainShown). (c.pass_on.new.self ≡ nothing_shown) ⊎ ((c.pass_on.new.self.behind ≡ s.behind ++ s.sources) × (c.pass_on.new.self.sources ≡ [])))
    (c.submit_next-answer.ensures.series ∙ c.self.view_is) c.pass_on.ensures

pub invariant_of-self-in-Err : goal.invariant_of-self-in-Err
invariant_of-self-in-Err g c =
    let i = c.self.invariant in
    let on = told-on g.S.Scope.may_list c.submit_next-answer.new.front nothing_shown c.clear.new.self (All-nil (Contains c.submit_next-answer.new.front)) (inl c.clear.ensures) in
    (i.0, on.0, on.1)

pub returns-in-Err : goal.returns-in-Err
returns-in-Err g c = inl c.clear.ensures
