-- Classes and dependencies by their names.
use Rattle.std.specs.Prelude.{◌≡◌, ◌≢◌, ◌≤◌, ◌==◌, ◌++◌, [], ◌∷◌, List, ℕ, codes, decimal, if◌then◌else◌}
use Rattle.ld_class.specs.Names.{PlainClass, plain_class}
use Rattle.ld_rules.specs.Dependency.{Dependency}
use Rattle.ld_occurrences.specs.declared.named.NamedDependency.{NamedDependency}

-- the name of a class as a report has it: `A`, and `A/N` of its subclass N
abbrev pub spelling : PlainClass → List ℕ
spelling class = class.name ++ (if class.sub == 0 then [] else codes "/" ++ decimal class.sub)

-- A word names this class: a report would spell it so. A word with `/` and a digit from 1 to 7 at its end names a subclass.
pub record IsNamed (word : List ℕ) (class : PlainClass) : Type 0 where
  pub spelled : spelling class ≡ word
  pub subclass : (name : List ℕ) (digit : ℕ) → word ≡ name ++ 47 ∷ digit ∷ [] → 49 ≤ digit → digit ≤ 55 → class.sub ≢ 0

-- a dependency without where its names lie in memory
abbrev pub plain_dependency : NamedDependency → Dependency
plain_dependency what = record { from = plain_class what.from; to = plain_class what.to }
