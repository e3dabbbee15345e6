-- The row's classes are those of the step, and its line is that at which the step was first seen.
use Rattle.std.proofs.Common.{◌≡◌, List, Some, ap, sym, ◌∙◌}
use Rattle.ld_trace.specs.Sources.{PlainSource}
use Rattle.ld_class.specs.Names.{PlainClass}
use Rattle.ld_rules.specs.declared.outcome.Witness.{Witness}
use Rattle.ld_rules.specs.Union.{dependency_witness}
use Rattle.ld_explain.proofs.rows.seen.Telling.dependency.Goals as goal

same-witness : (sources : List PlainSource) (a b from to : PlainClass) (at : Witness) → a ≡ from → b ≡ to
    → dependency_witness sources (record { from = from; to = to }) ≡ Some at
    → dependency_witness sources (record { from = a; to = b }) ≡ Some at
same-witness sources a b from to at same-a same-b first =
    ap (λ x. dependency_witness sources (record { from = x; to = b })) same-a
    ∙ (ap (λ x. dependency_witness sources (record { from = from; to = x })) same-b ∙ first)

pub returns : goal.returns
returns c = λ sources first. (
  c.args.step.now.first,
  (same-witness sources _ _ _ _ c.args.step.now.first c.class_of.ensures c.class_of-2.ensures first, sym c.in_ok-seen.ensures),
)
