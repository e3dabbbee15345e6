-- The traces in which something was first seen, by the rows of a book; and what is so of their stream.
use Rattle.std.proofs.Common.{◌≡◌, ◌∙◌, ◌<◌, ◌≤◌, ◌==◌, ◌||◌, inl, inr, ◌++◌, ℕ, Bool, true, false, List, [], ◌∷◌, map, length, Option, Some, None, is_some, IsSome, Result, Ok, Err, IfOk, All, refl, ap, sym, subst, arith}
use Rattle.std.proofs.lemmas.Bool.{eqb-true, or_left, or_right}
use Rattle.std.proofs.lemmas.Bool.Decides.{Decides-eqb}
use Rattle.std.proofs.lemmas.List.Elements.{All-head, All-tail}
use Rattle.std.proofs.lemmas.List.Folds.{list_any_at}
use Rattle.std.proofs.lemmas.List.Sorted.{Contains-permutation, IsPermutation-sym}
use Rattle.std.specs.Bool.{Decides}
use Rattle.std.specs.List.{list_any}
use Rattle.std.specs.List.Sorted.{IsPermutation}
use Rattle.ld_class.specs.Names.{PlainClass, no_class, place_of}
use Rattle.ld_class.proofs.Mapped.{list_any-map}
use Rattle.ld_class.proofs.NameLemmas.{place_of-Some}
use Rattle.ld_graph.specs.Walks.{HasWalk}
use Rattle.ld_trace.specs.Sources.{Fits, PlainSource, sources, stream_fault}
use Rattle.ld_trace.specs.declared.event.State.TheVariants.{Hard, Soft}
use Rattle.ld_trace.specs.declared.source.TheConstants.{LONGEST_STREAM, MOST_TRACES}
use Rattle.ld_rules.specs.declared.outcome.Witness.{Witness}
use Rattle.ld_rules.specs.Dependency.{Dependency}
use Rattle.ld_rules.specs.Union.{dependency_witness, union_classes, use_witness}
use Rattle.ld_rules.specs.Usage.{Bit, Use}
use Rattle.ld_rules.specs.Usage.Bit.{In, On}
use Rattle.ld_batch.specs.Batch.{AreRising}
use Rattle.ld_book.specs.OfUnion.declared.dependencies.Witnessed.{Witnessed}
use Rattle.ld_book.specs.OfUnion.declared.usage.UsageRow.{UsageRow}
use Rattle.ld_book.specs.OfUnion.Usage.{bits}
use Rattle.ld_book.proofs.OfUnion.UniqueLemmas.{ordered-same}
use Rattle.ld_book.proofs.PermutedLemmas.{dependency_witness-permuted, use_witness-permuted}
use Rattle.ld_book.specs.Dependencies.{AreDependencies, dependency_at, usage_of_class}
use Rattle.ld_book.specs.Violations.{Depends, HasBit, IsViolation, Violation}
use Rattle.ld_book.specs.Violations.Violation.{Conflict, Cycle, Forbidden}
use Rattle.ld_reduce.specs.Kept.{IsAt, IsFirst}
use Rattle.ld_origin.specs.Origin.{PlainHome, marked}
use Rattle.ld_reduce.specs.Reduced.{AreNeeded, IsReduced}
use Rattle.ld_reduce.specs.Same.{HaveSameUnion, HaveSameWitnesses, ShowSame}
use Rattle.ld_reduce.specs.Written.{IsTrace}
use Rattle.ld_reduce.proofs.JoinLemmas.{joined-kept, show_same-from_union}
use Rattle.ld_reduce.proofs.LawLemmas.{reduced-left}
use Rattle.ld_reduce.proofs.MarkedLemmas.{HasHead, both-marked, rising-marked, same-marked, traces-marked}
use Rattle.ld_reduce.proofs.SettledLemmas.{reduced-settled, says-homes}
use Rattle.ld_reduce.proofs.StreamLemmas.{sources-heads, sources-rising, sources-traces}
use Rattle.ld_reduce.specs.Reduction.{HaveSameViolations, IsReductionOf, is_in}

-- What is seen first, by rows.

-- one of the elements passes, and has what all have
found : {X : Type 0} (P : X → Type 0) (p : X → Bool) (xs : List X) → All P xs → list_any p xs ≡ true → (x : X) × (P x × (p x ≡ true))
found P p [] all there = absurd (cc)
found {X} P p (x ∷ xs) all there = by (p x) refl there (λ later. found P p xs (All-tail P x xs all) later)
  where
    by : (test : Bool) → p x ≡ test → (test || list_any p xs) ≡ true → (list_any p xs ≡ true → (y : X) × (P y × (p y ≡ true))) → (y : X) × (P y × (p y ≡ true))
    by true is there rest = (x, (All-head P x xs all, is))
    by false is there rest = rest there

passing : {X : Type 0} (p : X → Bool) (xs : List X) → list_any p xs ≡ true → (x : X) × (p x ≡ true)
passing p [] there = absurd (cc)
passing {X} p (x ∷ xs) there = by (p x) refl there (λ later. passing p xs later)
  where
    by : (test : Bool) → p x ≡ test → (test || list_any p xs) ≡ true → (list_any p xs ≡ true → (y : X) × (p y ≡ true)) → (y : X) × (p y ≡ true)
    by true is there rest = (x, is)
    by false is there rest = rest there

at_from_in : (number : ℕ) (first : Option Witness) → is_in number first ≡ true → IsAt number first
at_from_in number None is = absurd (cc)
at_from_in number (Some w) is = let same = eqb-true number w.number is in (w.line, ap (λ n. Some (record { number = n; line = w.line })) (sym same))

in_from_at : (number : ℕ) (first : Option Witness) → IsAt number first → is_in number first ≡ true
in_from_at number first at = ap (is_in number) at.1 ∙ (Decides-eqb number number).1 refl

some_from_at : (number : ℕ) (first : Option Witness) → IsAt number first → IsSome first
some_from_at number first at = subst IsSome (sym at.1) refl

-- what a bit passes, one of all passes
of_bits : (p : Bit → Bool) (bit : Bit) → p bit ≡ true → list_any p bits ≡ true
of_bits p (In Hard) is = list_any_at p bits 0 (In Hard) (omega arith) is
of_bits p (On Hard) is = list_any_at p bits 1 (In Hard) (omega arith) is
of_bits p (In Soft) is = list_any_at p bits 2 (In Hard) (omega arith) is
of_bits p (On Soft) is = list_any_at p bits 3 (In Hard) (omega arith) is

module _ (sources : List PlainSource) (number : ℕ) where
  abbrev bit_in : PlainClass → Bit → Bool
  bit_in class bit = is_in number (use_witness sources (record { class = class; bit = bit }))

  abbrev used_in : Bool
  used_in = list_any (λ (row : UsageRow). list_any (is_in number) row.first) (map (usage_of_class sources) (union_classes sources))

  by_class : used_in ≡ list_any (λ class. list_any (bit_in class) bits) (union_classes sources)
  by_class =
      list_any-map (usage_of_class sources) (λ row. list_any (is_in number) row.first) (union_classes sources)
      ∙ ap (λ (p : PlainClass → Bool). list_any p (union_classes sources)) (λ i class. list_any-map (λ bit. use_witness sources (record { class = class; bit = bit })) (is_in number) bits i)

  first_from_used : used_in ≡ true → IsFirst sources number
  first_from_used there =
      let class = passing (λ class. list_any (bit_in class) bits) (union_classes sources) (sym by_class ∙ there) in
      let bit = passing (bit_in class.0) bits class.1 in
      inr (record { class = class.0; bit = bit.0 }, at_from_in number _ bit.1)

  module _ (used : (what : Use) → IsSome (use_witness sources what) → IsSome (place_of (union_classes sources) what.class)) where
    used_from_first : (what : Use) → IsAt number (use_witness sources what) → used_in ≡ true
    used_from_first what at = by_class ∙ by (place_of (union_classes sources) what.class) refl (used what (some_from_at number _ at))
      where
        by : (place : Option ℕ) → place_of (union_classes sources) what.class ≡ place → IsSome place → list_any (λ class. list_any (bit_in class) bits) (union_classes sources) ≡ true
        by None is some = absurd (cc)
        by (Some k) is some =
            let named = place_of-Some (union_classes sources) what.class k is in
            list_any_at (λ class. list_any (bit_in class) bits) (union_classes sources) k no_class named.0
            (ap (λ class. list_any (bit_in class) bits) named.1 ∙ of_bits (bit_in what.class) what.bit (in_from_at number _ at))

    module _ (rows : List Witnessed) (are : AreDependencies sources rows) where
      -- a number is noted exactly where something was first seen in the trace of this number
      pub firsts-exact : (has : Bool) → has ≡ (used_in || (list_any (λ (row : Witnessed). number == row.first.number) rows || false)) → Decides has (IsFirst sources number)
      firsts-exact has is = (λ there. to used_in (list_any (λ (row : Witnessed). number == row.first.number) rows) refl refl (sym is ∙ there), λ first. is ∙ from first)
        where
          to : (a b : Bool) → used_in ≡ a → list_any (λ (row : Witnessed). number == row.first.number) rows ≡ b → (a || (b || false)) ≡ true → IsFirst sources number
          to true b one two there = first_from_used one
          to false true one two there =
              let row = found (λ row. dependency_witness sources (dependency_at sources row.edge) ≡ Some row.first) (λ row. number == row.first.number) rows are.witness two in
              inl (dependency_at sources row.0.edge, at_from_in number _ (ap (is_in number) row.1.0 ∙ row.1.1))
          to false false one two there = absurd (cc)

          from : IsFirst sources number → (used_in || (list_any (λ (row : Witnessed). number == row.first.number) rows || false)) ≡ true
          from (inr what) = or_left used_in _ (used_from_first what.0 what.1)
          from (inl what) =
              let row = are.all what.0 (some_from_at number _ what.1) in
              let k = row.0 in
              let r = row.1 in
              let here : dependency_witness sources (dependency_at sources r.edge) ≡ Some r.first =
              subst (λ (it : Witnessed). dependency_witness sources (dependency_at sources it.edge) ≡ Some it.first) row.3 (are.witness k r row.2) in
              let in_row : (number == r.first.number) ≡ true =
              ap (is_in number) (sym here ∙ ap (dependency_witness sources) row.4) ∙ in_from_at number _ what.1 in
              or_right used_in _ (or_left _ false
              (list_any_at (λ (it : Witnessed). number == it.first.number) rows k r row.2 (ap (λ (it : Witnessed). number == it.first.number) row.3 ∙ in_row)))

-- whatever the order of the traces
pub first-permuted : (sources listed : List PlainSource) → IsPermutation sources listed → (number : ℕ) (has : Bool) → Decides has (IsFirst sources number) → Decides has (IsFirst listed number)
first-permuted sources listed moved number has is = (λ there. to (is.0 there), λ first. is.1 (from first))
  where
    to : IsFirst sources number → IsFirst listed number
    to (inl what) = inl (what.0, (what.1.0, dependency_witness-permuted sources listed moved what.0 ∙ what.1.1))
    to (inr what) = inr (what.0, (what.1.0, use_witness-permuted sources listed moved what.0 ∙ what.1.1))

    from : IsFirst listed number → IsFirst sources number
    from (inl what) = inl (what.0, (what.1.0, sym (dependency_witness-permuted sources listed moved what.0) ∙ what.1.1))
    from (inr what) = inr (what.0, (what.1.0, sym (use_witness-permuted sources listed moved what.0) ∙ what.1.1))

-- Violations.

-- what traces show is all that makes violations
violation-from_shown : (these others : List PlainSource) → ShowSame these others → (v : Violation) → IsViolation these v → IsViolation others v
violation-from_shown these others same v is = by v is
  where
    of_dependencies : (P : (PlainClass → PlainClass → Type 0) → Type 0) → P (Depends these) → P (Depends others)
    of_dependencies P = subst (λ (test : Dependency → Bool). P (λ a b. test (record { from = a; to = b }) ≡ true)) (λ i what. same.dependencies what i)

    of_bit : (class : PlainClass) (bit : Bit) → HasBit these class bit → HasBit others class bit
    of_bit class bit has = sym (same.uses (record { class = class; bit = bit })) ∙ has

    by : (v : Violation) → IsViolation these v → IsViolation others v
    by (Cycle from to) is = of_dependencies (λ depends. depends from to × HasWalk depends to from) is
    by (Conflict state class) is = (of_bit class (In state) is.0, of_bit class (On state) is.1)
    by (Forbidden state from to) is = (of_bit from (In state) is.0, of_bit to (On state) is.1, of_dependencies (λ depends. HasWalk depends from to) is.2)

violations-from_shown : (these others : List PlainSource) → ShowSame these others → HaveSameViolations these others
violations-from_shown these others same v = (
  violation-from_shown these others same v,
  violation-from_shown others these (record { dependencies = λ what. sym (same.dependencies what); uses = λ what. sym (same.uses what) }) v,
)

-- a trace that fits has its header before its lines
pub fits-heads : (all : List PlainSource) → All Fits all → All HasHead all
fits-heads all fit k d within = let low = (fit k d within).from_line in omega (arith, low)

-- what traces show first shows what they show
shown-from_witnesses : (these others more : List PlainSource) → HaveSameWitnesses these others → ShowSame others more → ShowSame these more
shown-from_witnesses these others more same shown = record {
  dependencies = λ what. ap is_some (same.dependencies what) ∙ shown.dependencies what;
  uses = λ what. ap is_some (same.uses what) ∙ shown.uses what;
}

-- what is so of a reduced stream
pub reduction-is : (keep_refused : Bool) (homes : List PlainHome) (all : List PlainSource) (text : List ℕ) → All IsTrace all → AreRising all → All HasHead all
    → IsReduced keep_refused (map (marked homes) all) text
    → (length all ≤ MOST_TRACES → length text ≤ LONGEST_STREAM → stream_fault text ≡ None) → HaveSameUnion (map (marked homes) all) (sources text) → AreNeeded keep_refused (sources text)
    → IsReductionOf keep_refused homes all text
reduction-is keep_refused homes all text traces rise heads reduced sound union needed =
    let same = same-marked homes all heads in
    record {
      reduced = reduced;
      same = same;
      sound = sound;
      union = union;
      violations = violations-from_shown all (sources text) (shown-from_witnesses all (map (marked homes) all) (sources text) same (show_same-from_union (map (marked homes) all) (sources text) union));
      joined = λ more others other rest fine is.
          let own = sources other in
          let head = sources-heads other in
          let shown = joined-kept keep_refused more (map (marked homes) all) reduced.kept (map (marked others) own) is.kept (traces-marked homes all traces) (rising-marked homes all rise) reduced.are
          (traces-marked others own (sources-traces other fine)) (rising-marked others own (sources-rising other)) is.are in
          subst (λ joined. HaveSameViolations (all ++ own) (sources joined)) (λ i. sym reduced.text_is i ++ sym is.text_is i)
          (violations-from_shown _ _ (shown-from_witnesses (all ++ own) (map (marked homes) all ++ map (marked others) own) _ (both-marked homes others all own heads head) shown));
      left = reduced-left keep_refused homes all text reduced traces rise;
      needed = needed;
      said = says-homes homes all;
      settled = reduced-settled keep_refused homes all text reduced needed;
    }

-- the sources of a stream have one order
pub in_order-sources : (bytes : List ℕ) (in_order : List PlainSource) → IsPermutation (sources bytes) in_order → AreRising in_order → in_order ≡ sources bytes
in_order-sources bytes in_order moved rise =
    ordered-same (λ a b. a.number < b.number) (λ a b lower higher. omega (arith, lower, higher)) in_order (sources bytes) rise (sources-rising bytes)
    (λ z there. Contains-permutation in_order (sources bytes) z (IsPermutation-sym (sources bytes) in_order moved) there)
    (λ z there. Contains-permutation (sources bytes) in_order z moved there)

-- of an Ok, by four facts of it
pub all_four : {A E : Type 0} {P Q R S T : A → Type 0} (result : Result A E) → ((x : A) → P x → Q x → R x → S x → T x)
    → IfOk result P → IfOk result Q → IfOk result R → IfOk result S → IfOk result T
all_four (Ok x) so p q r s = so x p q r s
all_four (Err e) so p q r s = tt
