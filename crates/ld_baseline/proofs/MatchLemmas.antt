-- Ends of texts, and patterns.
use Rattle.std.proofs.Common.{◌≡◌, ◌∙◌, ◌&&◌, ◌||◌, ◌==◌, ◌++◌, ℕ, Bool, true, false, cond, if◌then◌else◌, List, [], ◌∷◌, refl, ap, sym}
use Rattle.std.proofs.Math.Bool.{or-false}
use Rattle.std.proofs.lemmas.Bool.{eq-eqb}
use Rattle.std.proofs.lemmas.Cmp.{nat_list_eq_equiv}
use Rattle.std.specs.List.{list_any}
use Rattle.std.specs.Str.{bytes_eq}
use Rattle.ld_baseline.specs.Said.{PlainSaid, same_said}
use Rattle.ld_baseline.specs.Match.{begins, has_star, is_match, is_star, matches, some_end}

either : (a b c : Bool) → (a ≡ true → c ≡ true) → (b ≡ true → c ≡ true) → (a || b) ≡ true → c ≡ true
either true b c f g h = f refl
either false b c f g h = g h

-- two tests that each imply the other are one
pub same_test : (a b : Bool) → (a ≡ true → b ≡ true) → (b ≡ true → a ≡ true) → a ≡ b
same_test true b f g = sym (f refl)
same_test false true f g = g refl
same_test false false f g = refl

-- the whole text is an end of it
pub whole_end : (passes : List ℕ → Bool) (text : List ℕ) → passes text ≡ true → some_end passes text ≡ true
whole_end passes [] h = h
whole_end passes (b ∷ text) h = ap (λ t. t || some_end passes text) h

later : (a b : Bool) → b ≡ true → (a || b) ≡ true
later true b h = refl
later false b h = h

-- an end of an end is an end
pub end_of_end : (passes : List ℕ → Bool) (text : List ℕ) → some_end (some_end passes) text ≡ true → some_end passes text ≡ true
end_of_end passes [] h = h
end_of_end passes (b ∷ text) h =
    either (some_end passes (b ∷ text)) (some_end (some_end passes) text) (some_end passes (b ∷ text))
    (λ e. e)
    (λ e. later (passes (b ∷ text)) (some_end passes text) (end_of_end passes text e))
    h

second : (a b : Bool) → (a && b) ≡ true → b ≡ true
second true b h = h
second false b h = absurd (cc)

-- if some end begins with a byte, what stands behind that is an end of what stands behind the first byte
pub behind_first : (a : ℕ) (passes : List ℕ → Bool) (b : ℕ) (text : List ℕ)
    → some_end (begins a passes) (b ∷ text) ≡ true → some_end passes text ≡ true
behind_first a passes b [] h =
    either (a == b && passes []) false (passes []) (second (a == b) (passes [])) (λ e. absurd (cc)) h
behind_first a passes b (c ∷ text) h =
    either (a == b && passes (c ∷ text)) (some_end (begins a passes) (c ∷ text)) (some_end passes (c ∷ text))
    (λ e. whole_end passes (c ∷ text) (second (a == b) (passes (c ∷ text)) e))
    (λ e. later (passes (c ∷ text)) (some_end passes text) (behind_first a passes c text e))
    h

neither : (a b : Bool) → (a || b) ≡ false → (a ≡ false) × (b ≡ false)
neither true b h = absurd (cc)
neither false b h = (refl, h)

-- a pattern without `*` matches just itself
pub plain_match : (pattern name : List ℕ) → list_any is_star pattern ≡ false → is_match pattern name ≡ bytes_eq pattern name
plain_match [] [] h = refl
plain_match [] (c ∷ name) h = refl
plain_match (b ∷ pattern) [] h =
    ap (λ t. if t then some_end (is_match pattern) [] else false) (neither (is_star b) (list_any is_star pattern) h).0
plain_match (b ∷ pattern) (c ∷ name) h =
    let both = neither (is_star b) (list_any is_star pattern) h in
    ap (λ t. if t then some_end (is_match pattern) (c ∷ name) else (b == c && is_match pattern name)) both.0
    ∙ ap (λ t. b == c && t) (plain_match pattern name both.1)

-- so does a known line
pub plain_matches : (known said : PlainSaid) → has_star known ≡ false → matches known said ≡ same_said known said
plain_matches known said h =
    let both = neither (list_any is_star known.from) (list_any is_star known.to) h in
    λ i. bytes_eq known.kind said.kind
    && (bytes_eq known.state said.state && (plain_match known.from said.from both.0 i && plain_match known.to said.to both.1 i))

pub same_said-symm : (a b : PlainSaid) → same_said a b ≡ same_said b a
same_said-symm a b =
    λ i. nat_list_eq_equiv.symm a.kind b.kind i
    && (nat_list_eq_equiv.symm a.state b.state i && (nat_list_eq_equiv.symm a.from b.from i && nat_list_eq_equiv.symm a.to b.to i))

-- one more at the end
pub list_any-push : {X : Type 0} (p : X → Bool) (xs : List X) (x : X) → list_any p (xs ++ x ∷ []) ≡ (list_any p xs || p x)
list_any-push p [] x = or-false (p x)
list_any-push p (y ∷ xs) x = ap (λ t. p y || t) (list_any-push p xs x) ∙ or-three (p y) (list_any p xs) (p x)
  where
    or-three : (a b c : Bool) → (a || (b || c)) ≡ ((a || b) || c)
    or-three true b c = refl
    or-three false b c = refl

-- one test more, which joins the first, the second, or the last of the tests before
pub first_more : (m a p r : Bool) → ((cond m true a || p) || r) ≡ ((a || p) || (m || r))
first_more true true p r = refl
first_more true false true r = refl
first_more true false false r = refl
first_more false a p r = refl

pub second_more : (m a p r : Bool) → ((a || (p || m)) || r) ≡ ((a || p) || (m || r))
second_more m true p r = refl
second_more m false true r = refl
second_more m false false r = refl

pub last_more : (m a r : Bool) → ((a || m) || r) ≡ (a || (m || r))
last_more m true r = refl
last_more m false r = refl

-- One byte of a pattern, at the front of what is left of a name. `left` and `rest` are what is left of both.
module _ (byte : ℕ) (behind left : List ℕ) (left_is : left ≡ byte ∷ behind) where
  starred : is_star byte ≡ true → is_match left ≡ some_end (is_match behind)
  starred star =
      ap is_match left_is ∙ (λ i name. ap (λ t. if t then some_end (is_match behind) name else begins byte (is_match behind) name) star i)

  pub unstarred : is_star byte ≡ false → is_match left ≡ begins byte (is_match behind)
  unstarred plain =
      ap is_match left_is ∙ (λ i name. ap (λ t. if t then some_end (is_match behind) name else begins byte (is_match behind) name) plain i)

  module _ (pattern name rest : List ℕ) (same : is_match pattern name ≡ is_match left rest)
      (later_too : some_end (is_match pattern) name ≡ true → some_end (is_match left) rest ≡ true) where
    -- it is a `*`
    pub star-same : is_star byte ≡ true → is_match pattern name ≡ some_end (is_match behind) rest
    star-same star = same ∙ ap (λ f. f rest) (starred star)

    pub star-ends : is_star byte ≡ true → some_end (is_match pattern) name ≡ some_end (is_match behind) rest
    star-ends star =
        same_test (some_end (is_match pattern) name) (some_end (is_match behind) rest)
        (λ h. end_of_end (is_match behind) rest (sym (ap (λ f. some_end f rest) (starred star)) ∙ later_too h))
        (λ h. whole_end (is_match pattern) name (star-same star ∙ h))

    -- it is the name's
    module _ (others : List ℕ) (rest_is : rest ≡ byte ∷ others) (plain : is_star byte ≡ false) where
      pub byte-same : is_match pattern name ≡ is_match behind others
      byte-same =
          same ∙ ap (λ f. f rest) (unstarred plain) ∙ ap (begins byte (is_match behind)) rest_is
          ∙ ap (λ t. t && is_match behind others) (eq-eqb byte byte refl)

      pub byte-later : some_end (is_match pattern) name ≡ true → some_end (is_match behind) others ≡ true
      byte-later h =
          behind_first byte (is_match behind) byte others
          (sym (ap (some_end (begins byte (is_match behind))) rest_is) ∙ sym (ap (λ f. some_end f rest) (unstarred plain)) ∙ later_too h)

self_step : (b : ℕ) (name : List ℕ) → is_match name name ≡ true → is_match (b ∷ name) (b ∷ name) ≡ true
self_step b name h = by (is_star b) refl
  where
    by : (star : Bool) → is_star b ≡ star → is_match (b ∷ name) (b ∷ name) ≡ true
    by true e =
        ap (λ t. if t then some_end (is_match name) (b ∷ name) else begins b (is_match name) (b ∷ name)) e
        ∙ later (is_match name (b ∷ name)) (some_end (is_match name) name) (whole_end (is_match name) name h)
    by false e =
        ap (λ t. if t then some_end (is_match name) (b ∷ name) else begins b (is_match name) (b ∷ name)) e
        ∙ ap (λ t. t && is_match name name) (eq-eqb b b refl)
        ∙ h

-- a name with a `*` of its own matches itself
pub self_match : (name : List ℕ) → is_match name name ≡ true
self_match [] = refl
self_match (b ∷ name) = self_step b name (self_match name)
