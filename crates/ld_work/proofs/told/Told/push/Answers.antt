use Rattle.std.proofs.Common.{All, List, subst, sym}
use Rattle.std.proofs.lemmas.List.Elements.{All-push}
use Rattle.std.specs.List.{Contains}
use Rattle.ld_trace.specs.Sources.{PlainSource}
use Rattle.ld_batch.specs.Batch.{PlainShown}
use Rattle.ld_work.specs.Inner.Seen.{entries_of}
use Rattle.ld_work.proofs.told.Told.push.Goals as goal

pub invariant_of-self-2 : goal.invariant_of-self-2
invariant_of-self-2 g c =
    let i = c.self.invariant in (
      i.0,
      subst (All g.S.Scope.may_list) (sym c.in_ok-push.ensures.ok) (All-push g.S.Scope.may_list _ _ i.1 c.requires.scope),
      subst (λ (behind : List PlainSource). All (Contains c.self.inside.front) (entries_of behind)) (sym c.push.ensures.behind) i.2,
    )

pub invariant_of-self : goal.invariant_of-self
invariant_of-self g c =
    let i = c.self.invariant in
    let same = sym c.in_err-push.ensures.refused in (
      i.0,
      subst (λ (s : PlainShown). All g.S.Scope.may_list s.sources) same i.1,
      subst (λ (s : PlainShown). All (Contains c.self.inside.front) (entries_of s.behind)) same i.2,
    )
