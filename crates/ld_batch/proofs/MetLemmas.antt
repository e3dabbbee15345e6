-- Things with witnesses, and as they were seen: what comes to a list, each thing once.
use Rattle.std.proofs.Common.{◌≡◌, ◌≢◌, ◌≤◌, ◌++◌, ◌∷◌, [], ◌||◌, AllPairs, Bool, true, false, cond, List, ℕ, Option, Some, None}
use Rattle.std.proofs.Common.{drop, fold, length, map, take, get_or, refl, ap, sym, ◌∙◌, arith, if◌then◌else◌, option_map, length-append}
use Rattle.std.proofs.lemmas.Bool.{true≢false}
use Rattle.std.proofs.lemmas.List.{get_or-map, length-map, map-append, take-append-drop, take-append-le, take_all}
use Rattle.std.proofs.lemmas.List.Folds.{find-append}
use Rattle.std.specs.Bool.{Decides}
use Rattle.std.specs.List.{find, list_any}
use Rattle.std.specs.Option.{option_or}
use Rattle.ld_rules.specs.Dependency.{Seen}
use Rattle.ld_rules.specs.Inner.Scanned.{with_new}
use Rattle.ld_rules.proofs.LeastLemmas.{first_line}
use Rattle.ld_batch.specs.Batch.{Met, witness_of}
use Rattle.ld_batch.specs.Inner.Rows.{seen_in, seen_of}
use Rattle.ld_batch.proofs.LineLemmas.{AreOnce, pairs-map}

-- no element passes where none is found
none_passes : {X : Type 0} (p : X → Bool) (xs : List X) → find p xs ≡ None → list_any p xs ≡ false
none_passes p [] none = refl
none_passes {X} p (x ∷ xs) none = by (p x) none (none_passes p xs)
  where
    by : (b : Bool) → cond b (Some x) (find p xs) ≡ None → (find p xs ≡ None → list_any p xs ≡ false) → (b || list_any p xs) ≡ false
    by true found rest = let no : Some x ≡ None = found in cc
    by false found rest = rest found

or_none : {X : Type 0} (o : Option X) → option_or o None ≡ o
or_none None = refl
or_none (Some x) = refl

or_assoc : {X : Type 0} (a b c : Option X) → option_or (option_or a b) c ≡ option_or a (option_or b c)
or_assoc None b c = refl
or_assoc (Some x) b c = refl

map_or : {X Y : Type 0} (f : X → Y) (a b : Option X) → option_map f (option_or a b) ≡ option_or (option_map f a) (option_map f b)
map_or f None b = refl
map_or f (Some x) b = refl

-- a thing that stands in a line of the trace of this number
abbrev pub met : {A : Type 0} → ℕ → Seen A → Met A
met number seen = record { what = seen.what; witness = record { number = number; line = seen.line } }

-- of the same thing, wherever it was seen
abbrev pub same_seen : {A : Type 0} → (A → A → Bool) → Seen A → Seen A → Bool
same_seen same s t = same s.what t.what

module _ {A : Type 0} (same : A → A → Bool) where
  -- what is first in two lists
  pub line-append : (xs ys : List (Seen A)) (what : A) → first_line same (xs ++ ys) what ≡ option_or (first_line same xs what) (first_line same ys what)
  line-append xs ys what =
      ap (option_map (λ s. s.line)) (find-append (λ s. same what s.what) xs ys)
      ∙ map_or (λ s. s.line) (find (λ s. same what s.what) xs) (find (λ s. same what s.what) ys)

  pub witness-append : (xs ys : List (Met A)) (what : A) → witness_of same (xs ++ ys) what ≡ option_or (witness_of same xs what) (witness_of same ys what)
  witness-append xs ys what =
      ap (option_map (λ m. m.witness)) (find-append (λ m. same what m.what) xs ys)
      ∙ map_or (λ m. m.witness) (find (λ m. same what m.what) xs) (find (λ m. same what m.what) ys)

  -- the witness of what was seen in one trace
  pub witness-met : (number : ℕ) (all : List (Seen A)) (what : A) → witness_of same (map (met number) all) what ≡ seen_in number (first_line same all what)
  witness-met number [] what = refl
  witness-met number (s ∷ all) what = by (same what s.what) (witness-met number all what)
    where
      by : (here : Bool) → witness_of same (map (met number) all) what ≡ seen_in number (first_line same all what)
          → option_map (λ n. n.witness) (cond here (Some (met number s)) (find (λ m. same what m.what) (map (met number) all)))
          ≡ seen_in number (option_map (λ t. t.line) (cond here (Some s) (find (λ t. same what t.what) all)))
      by true rest = refl
      by false rest = rest

  -- the line of a witness
  pub line-of : (all : List (Met A)) (what : A) → first_line same (map seen_of all) what ≡ option_map (λ w. w.line) (witness_of same all what)
  line-of [] what = refl
  line-of (m ∷ all) what = by (same what m.what) (line-of all what)
    where
      by : (here : Bool) → first_line same (map seen_of all) what ≡ option_map (λ w. w.line) (witness_of same all what)
          → option_map (λ s. s.line) (cond here (Some (seen_of m)) (find (λ s. same what s.what) (map seen_of all)))
          ≡ option_map (λ w. w.line) (option_map (λ n. n.witness) (cond here (Some m) (find (λ n. same what n.what) all)))
      by true rest = refl
      by false rest = rest

module _ {A : Type 0} (same : A → A → Bool) (decides : (a b : A) → Decides (same a b) (a ≡ b)) where
  -- one more
  one_more : (all : List (Seen A)) (s : Seen A) (what : A) → first_line same (with_new (same_seen same) all s) what ≡ option_or (first_line same all what) (first_line same (s ∷ []) what)
  one_more all s what =
      line-append same all (if list_any (same_seen same s) all then [] else s ∷ []) what
      ∙ by (list_any (same_seen same s) all) refl (find (λ t. same what t.what) all) refl (same what s.what) refl
    where
      by : (b : Bool) → list_any (same_seen same s) all ≡ b → (found : Option (Seen A)) → find (λ t. same what t.what) all ≡ found → (here : Bool) → same what s.what ≡ here
          → option_or (option_map (λ t. t.line) found) (first_line same (if b then [] else s ∷ []) what)
          ≡ option_or (option_map (λ t. t.line) found) (option_map (λ t. t.line) (cond here (Some s) None))
      by b known (Some t) found here is = refl
      by false known None found here is = ap (λ h. option_map (λ t. t.line) (cond h (Some s) None)) is
      by true known None found false is = refl
      by true known None found true is =
          let none : list_any (λ t. same what t.what) all ≡ false = none_passes (λ t. same what t.what) all found in
          let alike : list_any (λ t. same what t.what) all ≡ list_any (same_seen same s) all = ap (λ a. list_any (λ (t : Seen A). same a t.what) all) ((decides what s.what).0 is) in
          absurd (true≢false (sym known ∙ sym alike ∙ none))

  -- more, in turn
  pub joined : (all more : List (Seen A)) (what : A) → first_line same (fold (with_new (same_seen same)) all more) what ≡ option_or (first_line same all what) (first_line same more what)
  joined all [] what = sym (or_none (first_line same all what))
  joined all (s ∷ more) what =
      joined (with_new (same_seen same) all s) more what
      ∙ ap (λ o. option_or o (first_line same more what)) (one_more all s what)
      ∙ or_assoc (first_line same all what) (first_line same (s ∷ []) what) (first_line same more what)
      ∙ ap (option_or (first_line same all what)) (by (same what s.what))
    where
      by : (here : Bool) → option_or (option_map (λ t. t.line) (cond here (Some s) None)) (first_line same more what)
          ≡ option_map (λ t. t.line) (cond here (Some s) (find (λ t. same what t.what) more))
      by true = refl
      by false = refl

  -- things that were seen once each have one witness each
  pub met_once : (all : List (Met A)) → AreOnce same (map seen_of all) → AllPairs (λ m n. m.what ≢ n.what) all
  met_once all once i j d before within alike =
      let m = get_or all i d in
      let n = get_or all j d in
      let here : get_or (map seen_of all) i (seen_of d) ≡ seen_of m = get_or-map seen_of all i d (seen_of d) (omega arith) in
      let there : get_or (map seen_of all) j (seen_of d) ≡ seen_of n = get_or-map seen_of all j d (seen_of d) within in
      let apart : same (get_or (map seen_of all) j (seen_of d)).what (get_or (map seen_of all) i (seen_of d)).what ≡ false =
      once i j (seen_of d) before (omega (arith, within, length-map all seen_of)) in
      true≢false (sym ((decides n.what m.what).1 (sym alike)) ∙ (λ k. same (sym there k).what (sym here k).what) ∙ apart)

  -- and the other way round
  pub seen_once : (all : List (Met A)) → AllPairs (λ m n. m.what ≢ n.what) all → AreOnce same (map seen_of all)
  seen_once all apart = pairs-map (λ s t. same t.what s.what ≡ false) seen_of all (λ i j d before within. by (get_or all i d) (get_or all j d) (apart i j d before within))
    where
      by : (m n : Met A) → m.what ≢ n.what → same n.what m.what ≡ false
      by m n differ = differs (same n.what m.what) refl
        where
          differs : (b : Bool) → same n.what m.what ≡ b → b ≡ false
          differs true is = absurd (differ (sym ((decides n.what m.what).0 is)))
          differs false is = refl

-- What is added to a list, each thing once, comes after what was there.
module _ {X : Type 0} (same : X → X → Bool) where
  stays_first : (n : ℕ) (known xs : List X) → n ≤ length known → take n (fold (with_new same) known xs) ≡ take n known
  stays_first n known [] low = refl
  stays_first n known (x ∷ xs) low =
      let more : List X = if list_any (same x) known then [] else x ∷ [] in
      stays_first n (known ++ more) xs (omega (arith, low, length-append known more)) ∙ take-append-le n known more low

  pub first_kept : (known xs : List X) → take (length known) (fold (with_new same) known xs) ≡ known
  first_kept known xs = stays_first (length known) known xs (omega arith) ∙ take_all (length known) known (omega arith)

  pub then_added : (known xs : List X) → known ++ drop (length known) (fold (with_new same) known xs) ≡ fold (with_new same) known xs
  then_added known xs =
      let all = fold (with_new same) known xs in
      ap (λ zs. zs ++ drop (length known) all) (sym (first_kept known xs)) ∙ take-append-drop (length known) all

-- these were there, and these came with the trace of this number
module _ {A : Type 0} (number : ℕ) where
  seen_met : (all : List (Seen A)) → map seen_of (map (met number) all) ≡ all
  seen_met [] = refl
  seen_met (s ∷ all) = ap (λ ss. s ∷ ss) (seen_met all)

  pub seen_both : (all : List (Met A)) (more : List (Seen A)) → map seen_of (all ++ map (met number) more) ≡ map seen_of all ++ more
  seen_both all more = map-append seen_of all (map (met number) more) ∙ ap (λ ss. map seen_of all ++ ss) (seen_met more)
