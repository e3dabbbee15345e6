-- Names of a list that stand for numbers among known ones.
use Rattle.std.proofs.Common.{◌≡◌, ◌+◌, ◌<◌, ◌++◌, ◌∷◌, [], ◌-◌, ◌||◌, cond, All, Bool, true, false, List, ℕ, Option, Some, None, Result, Ok, Err, OnOk, is_some, nat_eq, not, suc}
use Rattle.std.proofs.Common.{drop, length, map, take, get_or, refl, ap, sym, subst, ◌∙◌, arith, if◌then◌else◌}
use Rattle.std.proofs.lemmas.Bool.{eqb-true, or_left, true≢false}
use Rattle.std.proofs.lemmas.List.{get_or-map, length-map, map_more, take-append-drop, take_rest}
use Rattle.std.proofs.lemmas.List.Elements.{All-map, All-push, All-weaker}
use Rattle.std.proofs.lemmas.List.Folds.{Any-from_list_any, list_any-append}
use Rattle.std.proofs.lemmas.List.Sums.{fold-append}
use Rattle.std.proofs.Math.Seq.{drop-append_seam}
use Rattle.std.specs.List.{list_any}
use Rattle.ld_class.specs.Names.{AreDistinct, PlainClass, no_class, place_of, with_name}
use Rattle.ld_rules.specs.Usage.{IsBit, bit_of}
use Rattle.ld_tables.specs.declared.edges.EdgeFact.{EdgeFact}
use Rattle.ld_tables.specs.declared.uses.UsageFact.{UsageFact}
use Rattle.ld_facts.specs.Named as scans
use Rattle.ld_facts.specs.Inner.Scan.{names_at}
use Rattle.ld_facts.proofs.OwnLemmas.{own-known, own-more, own-none}
use Rattle.ld_facts.specs.Inner.Kept.{AreNames}
use Rattle.ld_batch.specs.Inner.Names.{IsLonger, with_names}
use Rattle.ld_batch.specs.Batch.{IsUse, IsBetween, named_dependency, named_use}
use Rattle.ld_facts.specs.Inner.Rows.{IsOwnEdge, IsOwnUse, edge_of, place_in, use_of}
use Rattle.ld_batch.proofs.MetLemmas.{met}
use Rattle.ld_facts.proofs.TraceLemmas.{same_maps, same_name}

-- as many numbers as names
pub as_many : (known : List PlainClass) (numbers : List ℕ) (names : List PlainClass) → AreNames known numbers names → length numbers ≡ length names
as_many known numbers names are = sym (length-map numbers (λ n. get_or known n no_class)) ∙ ap length are.same

module _ (known : List PlainClass) (numbers : List ℕ) (names : List PlainClass) (are : AreNames known numbers names) (number : ℕ) (within : number < length known) where
  abbrev name : PlainClass
  name = get_or known number no_class

  -- a name that is there
  pub named-known : list_any (nat_eq number) numbers ≡ true → names ≡ with_name names name
  named-known there = subst (λ ns. ns ≡ with_name ns name) are.same (own-known known numbers number name (within, refl) there)

  -- and one that is not
  pub named-none : AreDistinct known → list_any (nat_eq number) numbers ≡ false → place_of names name ≡ None
  named-none distinct new =
      subst (λ ns. place_of ns name ≡ None) are.same
      (own-none known numbers name are.within (λ id at. ap (λ n. list_any (nat_eq n) numbers) (distinct id number name at (within, refl)) ∙ new))

  pub named-push : AreDistinct known → place_of known name ≡ Some number → list_any (nat_eq number) numbers ≡ false → AreNames known (numbers ++ number ∷ []) (names ++ name ∷ [])
  named-push distinct place new = record {
    within = All-push (λ n. n < length known) numbers number are.within within;
    same = own-more known numbers name are.within none known number known_is (within, refl) ∙ ap (λ ns. with_name ns name) are.same
        ∙ ap (λ (o : Option ℕ). if is_some o then names else names ++ name ∷ []) (named-none distinct new);
  }
    where
      known_is : known ≡ with_name known name
      known_is = sym (ap (λ (o : Option ℕ). if is_some o then known else known ++ name ∷ []) place)

      none : place_of (names_at known numbers) name ≡ None
      none = subst (λ ns. place_of ns name ≡ None) (sym are.same) (named-none distinct new)

-- what a push answers
pub named-then : {E : Type 0} (r : Result (Unit {0}) E) (known : List PlainClass) (numbers more : List ℕ) (names : List PlainClass) (number : ℕ) → AreNames known (numbers ++ number ∷ []) names →
    OnOk r (more ≡ numbers ++ number ∷ []) → OnOk r (AreNames known more names)
named-then (Ok u) known numbers more names number are is = subst (λ ns. AreNames known ns names) (sym is) are
named-then (Err e) known numbers more names number are is = tt

-- a name that is put last since it isn't there
pub named-new : {E : Type 0} (r : Result (Unit {0}) E) (names new : List PlainClass) (name : PlainClass) → place_of names name ≡ None → new ≡ names ++ name ∷ []
    → OnOk r (new ≡ with_name names name)
named-new (Ok u) names new name none is = is ∙ sym (ap (λ (o : Option ℕ). if is_some o then names else names ++ name ∷ []) none)
named-new (Err e) names new name none is = tt

-- numbers that stand first are there
pub first_there : (old new : List ℕ) → take (length old) new ≡ old → (n : ℕ) → list_any (nat_eq n) old ≡ true → list_any (nat_eq n) new ≡ true
first_there old new first n there =
    ap (list_any (nat_eq n)) (sym (take-append-drop (length old) new))
    ∙ list_any-append (nat_eq n) (take (length old) new) (drop (length old) new)
    ∙ or_left (list_any (nat_eq n) (take (length old) new)) (list_any (nat_eq n) (drop (length old) new)) (ap (list_any (nat_eq n)) first ∙ there)

-- one more of the names that numbers stand for
pub with_names-more : (known names now new : List PlainClass) (own : List ℕ) (i d : ℕ) → i < length own → now ≡ with_names names (names_at known (take i own)) →
    new ≡ with_name now (get_or known (get_or own i d) no_class) → new ≡ with_names names (names_at known (take (i + 1) own))
with_names-more known names now new own i d within so_far is =
    is ∙ ap (λ ns. with_name ns (get_or known (get_or own i d) no_class)) so_far
    ∙ sym (fold-append with_name names (names_at known (take i own)) (get_or known (get_or own i d) no_class ∷ []))
    ∙ ap (with_names names) (sym (map_more (λ n. get_or known n no_class) own i d within))

-- what is of some numbers is of others among which these are
module _ (own numbers : List ℕ) (all : All (λ n. list_any (nat_eq n) numbers ≡ true) own) where
  there_too : (n : ℕ) → list_any (nat_eq n) own ≡ true → list_any (nat_eq n) numbers ≡ true
  there_too n there =
      let found = Any-from_list_any (nat_eq n) own there in
      ap (λ k. list_any (nat_eq k) numbers) (eqb-true n found.1 found.4 ∙ sym found.3) ∙ all found.0 found.1 found.2

  pub edges_too : (facts : List EdgeFact) → All (IsOwnEdge own) facts → All (IsOwnEdge numbers) facts
  edges_too = All-weaker (IsOwnEdge own) (IsOwnEdge numbers) (λ fact is. (there_too fact.from is.0, there_too fact.to is.1))

  pub uses_too : (facts : List UsageFact) → All (IsOwnUse own) facts → All (IsOwnUse numbers) facts
  uses_too = All-weaker (IsOwnUse own) (IsOwnUse numbers) (λ fact is. there_too fact.class is)

-- a part that is read as a slice
pub slice_is : {X : Type 0} (xs facts : List X) (n count : ℕ) → xs ≡ facts → n ≡ count → take (length xs - n) (drop n xs) ≡ drop count facts
slice_is xs facts n count is many = take_rest xs n ∙ (λ i. drop (many i) (is i))

-- what comes behind what there was before
pub told_rest : {X : Type 0} (before here all : List X) (n : ℕ) → before ++ here ≡ all → n ≡ length before → drop n all ≡ here
told_rest before here all n is many = (λ i. drop (many i) (sym is i)) ∙ drop-append_seam before here

-- a number that is there stands at its place
pub place_at : (n : ℕ) (numbers : List ℕ) → list_any (nat_eq n) numbers ≡ true → (place_in numbers n < length numbers) × (get_or numbers (place_in numbers n) 0 ≡ n)
place_at n [] there = absurd (true≢false (sym there))
place_at n (x ∷ xs) there = by (nat_eq n x) refl (place_at n xs)
  where
    by : (b : Bool) → nat_eq n x ≡ b → (list_any (nat_eq n) xs ≡ true → (place_in xs n < length xs) × (get_or xs (place_in xs n) 0 ≡ n)) →
        (cond (not b) (1 + place_in xs n) 0 < length (x ∷ xs)) × (get_or (x ∷ xs) (cond (not b) (1 + place_in xs n) 0) 0 ≡ n)
    by true same _ = (omega arith, sym (eqb-true n x same))
    by false other later =
        let rest = later (ap (λ b. b || list_any (nat_eq n) xs) (sym other) ∙ there) in
        let next : 1 + place_in xs n ≡ suc (place_in xs n) = omega arith in
        (omega (arith, rest.0), ap (λ k. get_or (x ∷ xs) k 0) next ∙ rest.1)

-- so its place among the names has its name
module _ (known : List PlainClass) (numbers : List ℕ) (names : List PlainClass) (are : AreNames known numbers names) where
  pub place_within : (n : ℕ) → list_any (nat_eq n) numbers ≡ true → place_in numbers n < length names
  place_within n there = omega (arith, (place_at n numbers there).0, as_many known numbers names are)

  pub place_name : (n : ℕ) → list_any (nat_eq n) numbers ≡ true → get_or names (place_in numbers n) no_class ≡ get_or known n no_class
  place_name n there =
      let at = place_at n numbers there in
      ap (λ ns. get_or ns (place_in numbers n) no_class) (sym are.same)
      ∙ get_or-map (λ k. get_or known k no_class) numbers (place_in numbers n) 0 no_class at.0
      ∙ ap (λ k. get_or known k no_class) at.1

  -- rows by places say what facts by numbers say
  pub named_rows : (number : ℕ) (told : List EdgeFact) → All (IsOwnEdge numbers) told →
      map (λ f. named_dependency names (edge_of numbers number f)) told ≡ map (λ f. met number (scans.named_dependency known f)) told
  named_rows number = same_maps (λ f. named_dependency names (edge_of numbers number f)) (λ f. met number (scans.named_dependency known f)) (IsOwnEdge numbers)
      (λ f own i. record { what = record { from = place_name f.from own.0 i; to = place_name f.to own.1 i }; witness = record { number = number; line = f.line } })

  pub named_use_rows : (number : ℕ) (told : List UsageFact) → All (IsOwnUse numbers) told →
      map (λ f. named_use names (use_of numbers number f)) told ≡ map (λ f. met number (scans.named_use known f)) told
  named_use_rows number = same_maps (λ f. named_use names (use_of numbers number f)) (λ f. met number (scans.named_use known f)) (IsOwnUse numbers)
      (λ f own i. record { what = record { class = place_name f.class own i; bit = bit_of f.bit }; witness = record { number = number; line = f.line } })

  pub rows_within : (number : ℕ) (told : List EdgeFact) → All (IsOwnEdge numbers) told → All (IsBetween names) (map (edge_of numbers number) told)
  rows_within number told own = All-map (IsBetween names) (edge_of numbers number) told
      (All-weaker (IsOwnEdge numbers) (λ f. IsBetween names (edge_of numbers number f)) (λ f is. (place_within f.from is.0, place_within f.to is.1)) told own)

  pub use_rows_within : (number : ℕ) (told : List UsageFact) → All (IsOwnUse numbers) told → All (λ f. IsBit f.bit) told → All (IsUse names) (map (use_of numbers number) told)
  use_rows_within number told own bits = All-map (IsUse names) (use_of numbers number) told
      (λ k d within. (place_within (get_or told k d).class (own k d within), bits k d within))

-- more known names leave those that numbers stand for
pub names_longer : (known more : List PlainClass) (count : ℕ) → IsLonger known more count → (numbers : List ℕ) (names : List PlainClass) → AreNames known numbers names → AreNames more numbers names
names_longer known more count longer numbers names are = record {
  within = All-weaker (λ n. n < length known) (λ n. n < length more) (λ n below. omega (arith, below, longer.least)) numbers are.within;
  same = same_maps (λ n. get_or more n no_class) (λ n. get_or known n no_class) (λ n. n < length known) (same_name known more count longer) numbers are.within ∙ are.same;
}
