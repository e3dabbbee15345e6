-- What a book shows of another one, class by class and dependency by dependency.
use Rattle.std.proofs.Common.{◌≡◌, ◌∙◌, ◌<◌, ℕ, Bool, true, false, cond, List, [], ◌∷◌, length, map, get_or, Option, Some, None, All, Any, IsSome, refl, ap, sym, subst, arith}
use Rattle.std.specs.Prelude.{is_some}
use Rattle.std.proofs.lemmas.List.Quantifiers.{position-Some}
use Rattle.ld_class.proofs.NameLemmas.{same_class-Decides}
use Rattle.ld_class.specs.Names.{PlainClass, no_class, place_of, same_class}
use Rattle.ld_trace.specs.Sources.{PlainSource}
use Rattle.ld_trace.specs.declared.event.State.TheVariants.{Hard, Soft}
use Rattle.ld_rules.specs.declared.outcome.Witness.{Witness}
use Rattle.ld_rules.specs.Dependency.{Dependency}
use Rattle.ld_rules.specs.Union.{dependency_witness, union_classes, use_witness}
use Rattle.ld_rules.specs.Usage.{Bit, Use}
use Rattle.ld_rules.specs.Usage.Bit.{In, On}
use Rattle.ld_reduce.specs.OfBook.Dependencies.{AreDependencies, dependency_at, usage_of_class}
use Rattle.ld_reduce.specs.OfBook.OfUnion.Usage.{row_of, usage_row}
use Rattle.ld_reduce.specs.OfBook.OfUnion.declared.usage.UsageRow.{UsageRow}
use Rattle.ld_reduce.specs.OfBook.OfUnion.declared.dependencies.Witnessed.{Witnessed}
use Rattle.ld_trace.specs.Sources.{Fits}
use Rattle.ld_reduce.specs.OfBook.Totals.{refused_count}
use Rattle.ld_cut.specs.Alike.{AreAlike}
use Rattle.ld_cut.specs.Inner.Shows.{ShowsBits, ShowsClass}
use Rattle.ld_cut.proofs.ReadLemmas.{are-read, are-traces}

-- two tests each of which follows from the other
pub same_tests : (a b : Bool) → (a ≡ true → b ≡ true) → (b ≡ true → a ≡ true) → a ≡ b
same_tests true true f g = refl
same_tests true false f g = sym (f refl)
same_tests false true f g = g refl
same_tests false false f g = refl

bits-of : (f g : Bit → Option Witness) → ShowsBits (row_of f) (row_of g) → (bit : Bit) → IsSome (g bit) → IsSome (f bit)
bits-of f g shows (In Hard) = shows 0 (omega arith)
bits-of f g shows (On Hard) = shows 1 (omega arith)
bits-of f g shows (In Soft) = shows 2 (omega arith)
bits-of f g shows (On Soft) = shows 3 (omega arith)

-- a row of a class that shows the bits of another row of it
pub shows-class : (book other : List PlainSource) (class : PlainClass) (row of_other : UsageRow) → usage_row book class ≡ Some row → of_other ≡ usage_of_class other class
    → ShowsBits row of_other → ShowsClass book other class
shows-class book other class row of_other has is shows = by (is_some (place_of (union_classes book) class)) refl has
  where
    f : Bit → Option Witness
    f bit = use_witness book (record { class = class; bit = bit })

    g : Bit → Option Witness
    g bit = use_witness other (record { class = class; bit = bit })

    by : (test : Bool) → is_some (place_of (union_classes book) class) ≡ test → usage_row book class ≡ Some row → ShowsClass book other class
    by true there has =
        let mine : Some (usage_of_class book class) ≡ Some row = sym (ap (λ (b : Bool). cond b (Some (usage_of_class book class)) None) there) ∙ has in
        let own : usage_of_class book class ≡ row = cc in
        let bits : ShowsBits (usage_of_class book class) (usage_of_class other class) =
        subst (λ r. ShowsBits r (usage_of_class other class)) (sym own) (subst (ShowsBits row) is shows) in
        record { there = there; uses = bits-of (λ bit. use_witness book (record { class = class; bit = bit })) (λ bit. use_witness other (record { class = class; bit = bit })) bits }
    by false none has =
        let mine : None ≡ Some row = sym (ap (λ (b : Bool). cond b (Some (usage_of_class book class)) None) none) ∙ has in
        absurd cc

-- a class that a book has stands at a place
at_place : (sources : List PlainSource) (class : PlainClass) → IsSome (place_of (union_classes sources) class)
    → (k : ℕ) × (k < length (union_classes sources)) × (get_or (union_classes sources) k no_class ≡ class)
at_place sources class there = by (place_of (union_classes sources) class) refl there
  where
    by : (place : Option ℕ) → place_of (union_classes sources) class ≡ place → IsSome place → (k : ℕ) × (k < length (union_classes sources)) × (get_or (union_classes sources) k no_class ≡ class)
    by None is some = absurd (let no : false ≡ true = some in cc)
    by (Some k) is some =
        let facts = position-Some (same_class class) (union_classes sources) k no_class is in
        (k, facts.0, sym ((same_class-Decides class (get_or (union_classes sources) k no_class)).0 facts.1))

-- all classes of a book, one after another
abbrev pub ShowsBelow : List PlainSource → List PlainSource → ℕ → Type 0
ShowsBelow book other n = (k : ℕ) → k < n → ShowsClass book other (get_or (union_classes other) k no_class)

module _ (book other : List PlainSource) (all : ShowsBelow book other (length (union_classes other))) where
  shown : (class : PlainClass) → IsSome (place_of (union_classes other) class) → ShowsClass book other class
  shown class there =
      let at = at_place other class there in
      subst (ShowsClass book other) at.2 (all at.0 at.1)

  pub classes-shown : (class : PlainClass) → IsSome (place_of (union_classes other) class) → IsSome (place_of (union_classes book) class)
  classes-shown class there = (shown class there).there

  pub uses-shown : ((what : Use) → IsSome (use_witness other what) → IsSome (place_of (union_classes other) what.class)) → (what : Use) → IsSome (use_witness other what) → IsSome (use_witness book what)
  uses-shown used what seen = (shown what.class (used what seen)).uses what.bit seen

-- a dependency of each row is there
abbrev pub ShowsRows : List PlainSource → List PlainSource → List Witnessed → Type 0
ShowsRows book other rows = All (λ row. IsSome (dependency_witness book (dependency_at other row.edge))) rows

pub dependencies-shown : (book other : List PlainSource) (rows : List Witnessed) → AreDependencies other rows → ShowsRows book other rows
    → (what : Dependency) → IsSome (dependency_witness other what) → IsSome (dependency_witness book what)
dependencies-shown book other rows are shows what seen =
    let found = are.all what seen in
    let at = shows found.0 found.1 found.2 in
    let row : IsSome (dependency_witness book (dependency_at other found.1.edge)) = subst (λ (r : Witnessed). IsSome (dependency_witness book (dependency_at other r.edge))) found.3 at in
    subst (λ d. IsSome (dependency_witness book d)) found.4 row

-- Traces of which none is rejected, and each list of which shows what the other does.
pub alike-is : (one many : List PlainSource) → refused_count one ≡ 0 → refused_count many ≡ 0 → All Fits many
    → ((class : PlainClass) → IsSome (place_of (union_classes many) class) → IsSome (place_of (union_classes one) class))
    → ((class : PlainClass) → IsSome (place_of (union_classes one) class) → IsSome (place_of (union_classes many) class))
    → ((what : Use) → IsSome (use_witness many what) → IsSome (use_witness one what))
    → ((what : Use) → IsSome (use_witness one what) → IsSome (use_witness many what))
    → ((what : Dependency) → IsSome (dependency_witness many what) → IsSome (dependency_witness one what))
    → ((what : Dependency) → IsSome (dependency_witness one what) → IsSome (dependency_witness many what))
    → AreAlike one many
alike-is one many read others_read fit classes classes' uses uses' dependencies dependencies' = record {
  read = are-read one read;
  others_read = are-read many others_read;
  traces = are-traces many fit (are-read many others_read);
  same = record {
    classes = λ class. same_tests (is_some (place_of (union_classes one) class)) (is_some (place_of (union_classes many) class)) (classes' class) (classes class);
    dependencies = λ what. same_tests (is_some (dependency_witness one what)) (is_some (dependency_witness many what)) (dependencies' what) (dependencies what);
    uses = λ what. same_tests (is_some (use_witness one what)) (is_some (use_witness many what)) (uses' what) (uses what);
  };
}
