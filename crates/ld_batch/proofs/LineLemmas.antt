-- Lists that have each thing once, in whatever order: those with the same elements have a thing at the same line.
use Rattle.std.proofs.Common.{◌≡◌, ◌==◌, ◌&&◌, ◌||◌, ◌∷◌, [], All, AllPairs, Bool, true, false, cond, List, ℕ, min, Option, Some, None}
use Rattle.std.proofs.Common.{filter, get_or, map, refl, ap, sym, ◌∙◌, arith, option_map}
use Rattle.std.proofs.lemmas.Bool.{eq-eqb, eqb-true, false_from_ne_true, true≢false}
use Rattle.std.proofs.lemmas.List.Elements.{All-head, All-map, All-tail}
use Rattle.std.proofs.lemmas.List.Folds.{list_any_none}
use Rattle.std.proofs.lemmas.List.Kept.{AllPairs-cons}
use Rattle.std.proofs.Math.Bool.{or-false}
use Rattle.std.specs.Bool.{Decides}
use Rattle.std.specs.List.{find, list_any, reduce}
use Rattle.ld_rules.specs.Dependency.{Seen, least_line}
use Rattle.ld_rules.specs.Inner.Scanned.{AreSame}
use Rattle.ld_rules.proofs.LeastLemmas.{first_line, first_pairs, later_pairs}

-- what holds of each two holds of what stands for them
pub pairs-map : {X Y : Type 0} (R : Y → Y → Type 0) (f : X → Y) (xs : List X) → AllPairs (λ a b. R (f a) (f b)) xs → AllPairs R (map f xs)
pairs-map R f [] pairs = λ i j d before within. absurd (omega arith)
pairs-map R f (x ∷ xs) pairs =
    AllPairs-cons R (f x) (map f xs) (All-map (R (f x)) f xs (first_pairs (λ a b. R (f a) (f b)) x xs pairs))
    (pairs-map R f xs (later_pairs (λ a b. R (f a) (f b)) x xs pairs))

-- none is kept where none passes
filter_none : {X : Type 0} (p : X → Bool) (xs : List X) → All (λ x. p x ≡ false) xs → filter p xs ≡ []
filter_none p [] none = refl
filter_none p (x ∷ xs) none = ap (λ b. cond b (x ∷ filter p xs) (filter p xs)) (All-head (λ y. p y ≡ false) x xs none) ∙ filter_none p xs (All-tail (λ y. p y ≡ false) x xs none)

-- no two are of the same thing
abbrev pub AreOnce : {A : Type 0} → (A → A → Bool) → List (Seen A) → Type 0
AreOnce same all = AllPairs (λ s t. same t.what s.what ≡ false) all

-- whether it is this line
abbrev is_line : Option ℕ → ℕ → Bool
is_line None line = false
is_line (Some k) line = k == line

-- that tells lines apart
same_lines : (a b : Option ℕ) → ((line : ℕ) → is_line a line ≡ is_line b line) → a ≡ b
same_lines None None all = refl
same_lines (Some k) None all = absurd (true≢false (sym (eq-eqb k k refl) ∙ all k))
same_lines None (Some l) all = absurd (true≢false (sym (eq-eqb l l refl) ∙ sym (all l)))
same_lines (Some k) (Some l) all = ap Some (eqb-true k l (all l ∙ eq-eqb l l refl))

module _ {A : Type 0} (same : A → A → Bool) (decides : (a b : A) → Decides (same a b) (a ≡ b)) where
  -- a thing that stands first stands there no more
  none_later : (s : Seen A) (all : List (Seen A)) (what : A) → AreOnce same (s ∷ all) → same what s.what ≡ true → All (λ t. same what t.what ≡ false) all
  none_later s all what once is k d within =
      let t = get_or all k d in
      let apart : same t.what s.what ≡ false = first_pairs (λ u v. same v.what u.what ≡ false) s all once k d within in
      false_from_ne_true (same what t.what) (λ alike.
      true≢false (sym ((decides t.what s.what).1 (sym ((decides what t.what).0 alike) ∙ (decides what s.what).0 is)) ∙ apart))

  -- it stands at a line where that is its first
  stands_at : (all : List (Seen A)) (what : A) (line : ℕ) → AreOnce same all → list_any (λ s. same what s.what && (s.line == line)) all ≡ is_line (first_line same all what) line
  stands_at [] what line once = refl
  stands_at (s ∷ all) what line once = by (same what s.what) refl (stands_at all what line (later_pairs (λ u v. same v.what u.what ≡ false) s all once))
    where
      by : (b : Bool) → same what s.what ≡ b → list_any (λ t. same what t.what && (t.line == line)) all ≡ is_line (first_line same all what) line
          → ((b && (s.line == line)) || list_any (λ t. same what t.what && (t.line == line)) all)
          ≡ is_line (option_map (λ t. t.line) (cond b (Some s) (find (λ t. same what t.what) all))) line
      by true is rest =
          ap (λ b. (s.line == line) || b) (list_any_none (λ t. same what t.what && (t.line == line)) all
          (λ k d within. ap (λ b. b && ((get_or all k d).line == line)) (none_later s all what once is k d within)))
          ∙ or-false (s.line == line)
      by false is rest = rest

  -- Where each thing stands once, the elements say its line.
  pub first_same : (xs ys : List (Seen A)) → AreOnce same xs → AreOnce same ys → AreSame xs ys → (what : A) → first_line same xs what ≡ first_line same ys what
  first_same xs ys once_x once_y are what = same_lines (first_line same xs what) (first_line same ys what)
      (λ line. sym (stands_at xs what line once_x) ∙ are (λ s. same what s.what && (s.line == line)) ∙ stands_at ys what line once_y)

  -- it is the least, since there is no other
  pub least_of_once : (all : List (Seen A)) → AreOnce same all → (what : A) → least_line same all what ≡ first_line same all what
  least_of_once [] once what = refl
  least_of_once (s ∷ all) once what = by (same what s.what) refl (least_of_once all (later_pairs (λ u v. same v.what u.what ≡ false) s all once) what)
    where
      by : (b : Bool) → same what s.what ≡ b → least_line same all what ≡ first_line same all what
          → reduce min (map (λ t. t.line) (cond b (s ∷ filter (λ t. same what t.what) all) (filter (λ t. same what t.what) all)))
          ≡ option_map (λ t. t.line) (cond b (Some s) (find (λ t. same what t.what) all))
      by true is rest = ap (λ ts. reduce min (map (λ (t : Seen A). t.line) (s ∷ ts))) (filter_none (λ t. same what t.what) all (none_later s all what once is))
      by false is rest = rest
