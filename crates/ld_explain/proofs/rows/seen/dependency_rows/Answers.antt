-- One more row is put behind the others.
use Rattle.std.proofs.Common.{◌≡◌, ◌++◌, ◌∷◌, [], All, sym, subst, rules}
use Rattle.std.proofs.lemmas.List.Elements.{All-push}
use Rattle.ld_explain.specs.Rows.{IsFirstRow}
use Rattle.ld_explain.proofs.rows.seen.dependency_rows.Goals as goal

pub loop-step-preserved : goal.loop-step-preserved
loop-step-preserved c = λ sources first.
    let old = c.loop-step.rows.items in
    let row = c.in_ok-dependency.field-0 in
    let pushed : c.push.new.self.items ≡ old ++ row ∷ [] = search rules in
    subst (All (IsFirstRow sources)) (sym pushed)
    (All-push (IsFirstRow sources) old row (c.loop-step.invariant sources first)
    (c.in_ok-dependency.ensures sources (first c.loop-step.step-index _ c.loop-step-test.true)))
