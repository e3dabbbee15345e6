-- What a union shows when what a batch shows is added.
use Rattle.std.proofs.Common.{◌≡◌, ◌++◌, ◌∙◌, All, Contains, List, Option, drop, length, ap, subst, arith}
use Rattle.ld_trace.specs.Sources.{PlainSource}
use Rattle.ld_rules.specs.declared.outcome.Witness.{Witness}
use Rattle.ld_rules.specs.Dependency.{Dependency, same_dependency}
use Rattle.ld_rules.specs.Union.{dependencies_of, dependency_witness, union_classes, use_witness, uses_of}
use Rattle.ld_rules.specs.Usage.{Use, same_use}
use Rattle.ld_batch.specs.Batch.{IsShown, PlainShown, first_since}
use Rattle.ld_batch.specs.Inner.Names.{with_names}
use Rattle.ld_batch.proofs.SinceLemmas.{few-since, new-since, witness-since}
use Rattle.ld_union.specs.Inner.Union.{Adds, AreBetween, AreUsed, AreWitnessed, PlainUnion, with_first}

-- a union to which what a batch shows was added
pub adds-shown : (old new : PlainUnion) (batch : PlainShown) → IsShown batch → AreBetween new.classes new.dependencies
    → new.classes ≡ with_names old.classes (drop (length (union_classes batch.behind)) batch.classes)
    → ((first : Dependency → Option Witness) → AreWitnessed old.classes old.dependencies first
    → AreWitnessed new.classes new.dependencies (with_first first (first_since dependency_witness batch.behind batch.sources)))
    → ((first : Use → Option Witness) → AreUsed old.classes old.usage first
    → AreUsed new.classes new.usage (with_first first (first_since use_witness batch.behind batch.sources)))
    → Adds batch.behind batch.sources old new
adds-shown old new batch exact numbered names witnessed used = record {
  shows = λ sources is there. record {
    numbered = numbered;
    classes = classes sources is.classes there;
    witnesses = subst (AreWitnessed new.classes new.dependencies)
        (λ i what. witness-since same_dependency dependencies_of what sources batch.behind batch.sources there exact.rise i) (witnessed (dependency_witness sources) is.witnesses);
    used = subst (AreUsed new.classes new.usage) (λ i what. witness-since same_use uses_of what sources batch.behind batch.sources there exact.rise i) (used (use_witness sources) is.used);
  };
  few = λ sources is there.
      let few = few-since sources batch.behind batch.sources there in
      omega (arith, few, ap length (classes sources is.classes there), ap length is.classes);
}
  where
    classes : (sources : List PlainSource) → old.classes ≡ union_classes sources → All (Contains sources) batch.behind → new.classes ≡ union_classes (sources ++ batch.sources)
    classes sources is there = names ∙ (λ i. with_names (is i) (drop (length (union_classes batch.behind)) (exact.classes i))) ∙ new-since sources batch.behind batch.sources there
