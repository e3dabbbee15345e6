-- No two names are written alike.
use Rattle.std.proofs.Common.{◌≡◌, ◌∙◌, ◌≢◌, ℕ, ◌/◌, ◌%◌, Bool, true, false, List, [], ◌∷◌, ◌++◌, flat_map, codes, refl, sym, ap, append_assoc, arith, if◌then◌else◌}
use Rattle.std.proofs.lemmas.List.{append_cancel_left}
use Rattle.std.proofs.lemmas.Bool.Decides.{nat_tests}
use Rattle.ld_escape.specs.declared.form.Form.{Form}
use Rattle.ld_escape.specs.declared.form.Form.TheVariants.{Markup, Json, Message, Property, Tap, Uri, Class, Task}
use Rattle.ld_escape.specs.Forms.{is_hidden, is_marked}
use Rattle.ld_escape.specs.Shown.{is_shown}
use Rattle.ld_escape.specs.Written.{digit, hex, piece, written}

same_digit : (m n : ℕ) → digit m ≡ digit n → m ≡ n
same_digit m n e = grind (arith, nat_tests)

same_byte : (a b : ℕ) → a / 16 ≡ b / 16 → a % 16 ≡ b % 16 → a ≡ b
same_byte a b hi lo = omega arith

-- what two bytes are, of which the same is written, with the same behind it
pub record Same (a b : ℕ) (xs ys : List ℕ) : Type 0 where
  pub byte : a ≡ b
  pub rest : xs ≡ ys

same_number : (a b : ℕ) (xs ys : List ℕ) → hex a ++ xs ≡ hex b ++ ys → Same a b xs ys
same_number a b xs ys e =
    let hi : digit (a / 16) ≡ digit (b / 16) = cc in
    let lo : digit (a % 16) ≡ digit (b % 16) = cc in
    record { byte = same_byte a b (same_digit _ _ hi) (same_digit _ _ lo); rest = cc }

flat : (p q r s : List ℕ) → (p ++ (q ++ r)) ++ s ≡ p ++ (q ++ (r ++ s))
flat p q r s = simp append_assoc

same_marked : (mark close : List ℕ) (a b : ℕ) (xs ys : List ℕ) → (mark ++ (hex a ++ close)) ++ xs ≡ (mark ++ (hex b ++ close)) ++ ys → Same a b xs ys
same_marked mark close a b xs ys e =
    let whole = sym (flat mark (hex a) close xs) ∙ e ∙ flat mark (hex b) close ys in
    let same = same_number a b (close ++ xs) (close ++ ys) (append_cancel_left mark _ _ whole) in
    record { byte = same.byte; rest = append_cancel_left close xs ys same.rest }

-- a byte as it is written by the answers of two tests
abbrev one : (marked hidden : Bool) (mark close : List ℕ) → ℕ → List ℕ
one marked hidden mark close b =
    if marked then mark ++ (hex b ++ close)
    else if hidden then codes "\\x" ++ hex b
    else b ∷ []

module _ (lead : ℕ) (more close : List ℕ) where
  -- a hidden byte begins otherwise than a marked one, and one that stands as it is begins neither
  record IsApart (marked hidden : Bool) (b : ℕ) : Type 0 where
    apart : hidden ≡ true → lead ≢ 92
    plain : marked ≡ false → hidden ≡ false → b ≢ lead

  same_one :
      (m h n k : Bool) (a b : ℕ) (xs ys : List ℕ) → IsApart m h a → IsApart n k b
      → (h ≡ true → n ≡ false → k ≡ false → b ≢ 92) → (k ≡ true → m ≡ false → h ≡ false → a ≢ 92)
      → one m h (lead ∷ more) close a ++ xs ≡ one n k (lead ∷ more) close b ++ ys → Same a b xs ys
  same_one true h true k a b xs ys p q u v e = same_marked (lead ∷ more) close a b xs ys e
  same_one true h false true a b xs ys p q u v e = absurd (q.apart refl cc)
  same_one true h false false a b xs ys p q u v e = absurd (q.plain refl refl cc)
  same_one false true true k a b xs ys p q u v e = absurd (p.apart refl cc)
  same_one false true false true a b xs ys p q u v e = same_number a b xs ys cc
  same_one false true false false a b xs ys p q u v e = absurd (u refl refl refl cc)
  same_one false false true k a b xs ys p q u v e = absurd (p.plain refl refl cc)
  same_one false false false true a b xs ys p q u v e = absurd (v refl refl refl cc)
  same_one false false false false a b xs ys p q u v e = record { byte = cc; rest = cc }

  nonempty : (m h : Bool) (b : ℕ) (xs : List ℕ) → one m h (lead ∷ more) close b ++ xs ≢ []
  nonempty true h b xs e = cc
  nonempty false true b xs e = cc
  nonempty false false b xs e = cc

-- a byte that a test answers otherwise is another one
pub other : (test : ℕ → Bool) (b c : ℕ) → test c ≡ true → test b ≡ false → b ≢ c
other test b c at_c at_b e = let same = ap test e in cc

-- in a form without hidden bytes
same_mark :
    (lead : ℕ) (more : List ℕ) (marks : Bool → ℕ → Bool) (s t : Bool) (a b : ℕ) (xs ys : List ℕ)
    → marks s lead ≡ true → marks t lead ≡ true
    → one (marks s a) false (lead ∷ more) [] a ++ xs ≡ one (marks t b) false (lead ∷ more) [] b ++ ys → Same a b xs ys
same_mark lead more marks s t a b xs ys p q e =
    same_one lead more [] (marks s a) false (marks t b) false a b xs ys
    (record { apart = λ h d. cc; plain = λ m h. other (marks s) a lead p m })
    (record { apart = λ h d. cc; plain = λ m h. other (marks t) b lead q m })
    (λ k m h d. cc) (λ k m h d. cc) e

same_piece : (form : Form) (s t : Bool) (a b : ℕ) (xs ys : List ℕ) → piece form s a ++ xs ≡ piece form t b ++ ys → Same a b xs ys
same_piece Markup s t a b xs ys e =
    same_one 38 (35 ∷ 120 ∷ []) (59 ∷ []) (is_marked Markup s a) (is_hidden Markup s a) (is_marked Markup t b) (is_hidden Markup t b) a b xs ys
    (record { apart = λ h d. absurd (omega arith); plain = λ m h. other (is_marked Markup s) a 38 refl m })
    (record { apart = λ h d. absurd (omega arith); plain = λ m h. other (is_marked Markup t) b 38 refl m })
    (λ k m h. other (is_hidden Markup t) b 92 refl h) (λ k m h. other (is_hidden Markup s) a 92 refl h) e
same_piece Json s t a b xs ys e = same_mark 92 (117 ∷ 48 ∷ 48 ∷ []) (is_marked Json) s t a b xs ys refl refl e
same_piece Message s t a b xs ys e = same_mark 37 [] (is_marked Message) s t a b xs ys refl refl e
same_piece Property s t a b xs ys e = same_mark 37 [] (is_marked Property) s t a b xs ys refl refl e
same_piece Tap s t a b xs ys e = same_mark 37 [] (is_marked Tap) s t a b xs ys refl refl e
same_piece Uri s t a b xs ys e = same_mark 37 [] (is_marked Uri) s t a b xs ys refl refl e
same_piece Class s t a b xs ys e = same_mark 37 [] (is_marked Class) s t a b xs ys refl refl e
same_piece Task s t a b xs ys e = same_mark 37 [] (is_marked Task) s t a b xs ys refl refl e

begun : (form : Form) (s : Bool) (b : ℕ) (xs : List ℕ) → piece form s b ++ xs ≢ []
begun Markup s b xs = nonempty 38 (35 ∷ 120 ∷ []) (59 ∷ []) (is_marked Markup s b) (is_hidden Markup s b) b xs
begun Json s b xs = nonempty 92 (117 ∷ 48 ∷ 48 ∷ []) [] (is_marked Json s b) false b xs
begun Message s b xs = nonempty 37 [] [] (is_marked Message s b) false b xs
begun Property s b xs = nonempty 37 [] [] (is_marked Property s b) false b xs
begun Tap s b xs = nonempty 37 [] [] (is_marked Tap s b) false b xs
begun Uri s b xs = nonempty 37 [] [] (is_marked Uri s b) false b xs
begun Class s b xs = nonempty 37 [] [] (is_marked Class s b) false b xs
begun Task s b xs = nonempty 37 [] [] (is_marked Task s b) false b xs

pub same_names : (form : Form) (s t : Bool) (xs ys : List ℕ) → flat_map (piece form s) xs ≡ flat_map (piece form t) ys → xs ≡ ys
same_names form s t [] [] e = refl
same_names form s t [] (y ∷ ys) e = absurd (begun form t y _ (sym e))
same_names form s t (x ∷ xs) [] e = absurd (begun form s x _ e)
same_names form s t (x ∷ xs) (y ∷ ys) e =
    let same = same_piece form s t x y _ _ e in
    let others = same_names form s t xs ys same.rest in
    let first = same.byte in
    cc

-- a name is the only one that is written so
pub only_one : (form : Form) (other name : List ℕ) → written form other ≡ written form name → other ≡ name
only_one form other name e = same_names form (is_shown other) (is_shown name) other name e
