-- What a batch shows, as it is noted row after row.
use Rattle.std.proofs.Common.{◌≡◌, ◌≢◌, ◌+◌, ◌<◌, ◌≤◌, ◌++◌, ◌∷◌, [], AllPairs, List, ℕ, zero, suc, Bool, true, false, cond, Option, Some, None, length}
use Rattle.std.proofs.Common.{flat_map, map, option_map, take, get_or, refl, sym, ap, subst, ◌∙◌, if◌then◌else◌, arith}
use Rattle.std.proofs.lemmas.Bool.{false_from_ne_true}
use Rattle.std.proofs.lemmas.List.{map-append, take_all, take_more}
use Rattle.std.proofs.lemmas.List.Folds.{find-append}
use Rattle.std.specs.List.{find}
use Rattle.std.specs.Option.{option_or}
use Rattle.ld_class.specs.Names.{AreDistinct, no_class, same_class}
use Rattle.ld_class.proofs.AnyNames.{apart-from_IsDistinct}
use Rattle.ld_class.proofs.NameLemmas.{same_class-Decides}
use Rattle.ld_rules.specs.declared.outcome.Witness.{Witness}
use Rattle.ld_rules.specs.Union.{classes_of, union_classes}
use Rattle.ld_rules.specs.Usage.{Use, same_use, usage_of}
use Rattle.ld_rules.proofs.UsageLemmas.{Decides-same_use}
use Rattle.ld_batch.specs.Batch.{IsShown, Met, PlainShown, named_dependency, named_use, witness_of}
use Rattle.ld_union.specs.Inner.Union.{earlier_of}
use Rattle.ld_union.proofs.EachOnceLemmas.{IsDistinct-each_once}
use Rattle.ld_batch.proofs.SourceLemmas.{earlier_of-none}

-- none passes, where none of the first ones does
pub none_found : {X Y : Type 0} (p : Y → Bool) (f : X → Y) (i : ℕ) (xs : List X) (d : X) → ((k : ℕ) → k < i → k < length xs → p (f (get_or xs k d)) ≡ false) → find p (map f (take i xs)) ≡ None
none_found p f zero [] d h = refl
none_found p f (suc i) [] d h = refl
none_found p f zero (x ∷ xs) d h = refl
none_found p f (suc i) (x ∷ xs) d h =
    ap (λ b. cond b (Some (f x)) (find p (map f (take i xs)))) (h 0 (omega arith) (omega arith)) ∙ none_found p f i xs d (λ k low within. h (suc k) (omega arith) (omega arith))

-- what is seen last is noted, unless it was seen before
joined : {A : Type 0} (before : Option Witness) (found : Option (Met A)) (last : Met A) (b : Bool) → (b ≡ true → found ≡ None)
    → earlier_of (earlier_of before (option_map (λ m. m.witness) found)) (if b then Some last.witness else None)
    ≡ earlier_of before (option_map (λ m. m.witness) (option_or found (cond b (Some last) None)))
joined before None last true new = ap (λ r. earlier_of r (Some last.witness)) (sym (earlier_of-none before))
joined before None last false new = sym (earlier_of-none (earlier_of before None))
joined before (Some m) last true new = let none : Some m ≡ None = new refl in cc
joined before (Some m) last false new = sym (earlier_of-none (earlier_of before (Some m.witness)))

-- the classes of a batch are distinct
batch_distinct : (batch : PlainShown) → IsShown batch → AreDistinct batch.classes
batch_distinct batch is =
    subst AreDistinct (sym is.classes) (apart-from_IsDistinct same_class no_class same_class-Decides
    (union_classes (batch.behind ++ batch.sources)) (IsDistinct-each_once same_class same_class-Decides (flat_map classes_of (batch.behind ++ batch.sources))))

-- Rows, no two of which are of the same thing.
module _ {R A : Type 0} (same : A → A → Bool) (equal : (a b : A) → same a b ≡ true → a ≡ b) (name : R → Met A) (rows : List R) where
  -- where the first of them tell that this was seen
  abbrev pub told_by : ℕ → A → Option Witness
  told_by i what = witness_of same (map name (take i rows)) what

  -- before the first one
  pub none_noted : (before : Option Witness) (what : A) → before ≡ earlier_of before (told_by 0 what)
  none_noted before what = by rows
    where
      by : (all : List R) → before ≡ earlier_of before (witness_of same (map name (take 0 all)) what)
      by all = earlier_of-none before

  -- after the last one
  pub all_noted : (before : Option Witness) (i : ℕ) (what : A) → length rows ≤ i → earlier_of before (told_by i what) ≡ earlier_of before (witness_of same (map name rows) what)
  all_noted before i what past = ap (λ all. earlier_of before (witness_of same (map name all) what)) (take_all i rows past)

  module _ (once : AllPairs (λ e f. (name e).what ≢ (name f).what) rows) (i : ℕ) (d : R) (here : i < length rows) where
    -- one of them is none of those before it
    still_new : (what : A) → same what (name (get_or rows i d)).what ≡ true → find (λ m. same what m.what) (map name (take i rows)) ≡ None
    still_new what alike =
        none_found (λ m. same what m.what) name i rows d
        (λ k low in_range. false_from_ne_true _ (λ other. once k i d low here (sym (equal what (name (get_or rows k d)).what other) ∙ equal what (name (get_or rows i d)).what alike)))

    -- one more is noted
    pub one_noted : (before : Option Witness) (what seen : A) (witness : Witness) → witness ≡ (name (get_or rows i d)).witness → seen ≡ (name (get_or rows i d)).what
        → earlier_of (earlier_of before (told_by i what)) (if same what seen then Some witness else None) ≡ earlier_of before (told_by (i + 1) what)
    one_noted before what seen witness same_witness same_seen =
        (λ j. earlier_of (earlier_of before (told_by i what)) (if same what (same_seen j) then Some (same_witness j) else None))
        ∙ joined before (find (λ m. same what m.what) (map name (take i rows))) (name (get_or rows i d)) (same what (name (get_or rows i d)).what) (still_new what)
        ∙ ap (λ found. earlier_of before (option_map (λ (m : Met A). m.witness) found))
        (sym (find-append (λ m. same what m.what) (map name (take i rows)) (name (get_or rows i d) ∷ [])))
        ∙ ap (λ all. earlier_of before (witness_of same all what)) (sym (map-append name (take i rows) (get_or rows i d ∷ [])))
        ∙ ap (λ all. earlier_of before (witness_of same (map name all) what)) (sym (take_more rows i d here))

-- equal uses have equal names and bits
pub same_use-true : (a b : Use) → same_use a b ≡ true → a ≡ b
same_use-true a b same = (Decides-same_use a b).0 same

module _ (batch : PlainShown) (is : IsShown batch) where
  -- no two dependencies of a batch are the same
  pub dependencies_once : AllPairs (λ e f. (named_dependency batch.classes e).what ≢ (named_dependency batch.classes f).what) batch.edges
  dependencies_once i j d before within same =
      let a = is.within i d (omega (arith, before, within)) in
      let b = is.within j d within in
      is.once i j d before within (
        batch_distinct batch is (get_or batch.edges i d).from (get_or batch.edges j d).from
            (named_dependency batch.classes (get_or batch.edges j d)).what.from (a.0, ap (λ x. x.from) same) (b.0, refl),
        batch_distinct batch is (get_or batch.edges i d).to (get_or batch.edges j d).to (named_dependency batch.classes (get_or batch.edges j d)).what.to (a.1, ap (λ x. x.to) same) (b.1, refl),
      )

  -- nor are two uses
  pub uses_once : AllPairs (λ u v. (named_use batch.classes u).what ≢ (named_use batch.classes v).what) batch.usage
  uses_once i j d before within same =
      let a = is.used_within i d (omega (arith, before, within)) in
      let b = is.used_within j d within in
      is.used_once i j d before within (
        batch_distinct batch is (get_or batch.usage i d).class (get_or batch.usage j d).class (named_use batch.classes (get_or batch.usage j d)).what.class (a.0, ap (λ x. x.class) same) (b.0, refl),
        a.1 ∙ ap (λ x. usage_of x.bit) same ∙ sym b.1,
      )
