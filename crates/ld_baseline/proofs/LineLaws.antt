-- Laws: what lines of a report's forms say. A line is given without its end, and `rest` is what ends it.
use Rattle.std.proofs.Common.{◌≡◌, ◌∙◌, ◌||◌, ◌&&◌, ◌⊎◌, inl, inr, ℕ, Bool, true, false, if◌then◌else◌, List, [], ◌∷◌, ◌++◌, Option, Some, None, codes, slice_index_or, refl, ap, subst, sym}
use Rattle.std.specs.List.{list_any, onto_first, slice_split}
use Rattle.std.specs.Str.{bytes_eq}
use Rattle.ld_baseline.specs.Said.{PlainSaid, is_space, said_by}

-- a run of bytes without a space
abbrev pub IsRun : List ℕ → Type 0
IsRun run = list_any is_space run ≡ false

-- these words, each with a space behind it, and then `rest`
abbrev pub spaced : List (List ℕ) → List ℕ → List ℕ
spaced [] rest = rest
spaced (word ∷ words) rest = word ++ 32 ∷ spaced words rest

abbrev pub IsStateName : List ℕ → Type 0
IsStateName state = (state ≡ codes "hard") ⊎ (state ≡ codes "soft")

-- neither of two tests that fail together passes
neither : (a b : Bool) → (a || b) ≡ false → (a ≡ false) × (b ≡ false)
neither true b h = absurd (cc)
neither false b h = (refl, h)

-- a run before a space is the first field
cut : (run rest : List ℕ) → IsRun run → slice_split is_space (run ++ 32 ∷ rest) ≡ run ∷ slice_split is_space rest
cut [] rest is = refl
cut (b ∷ run) rest is =
    let both = neither (is_space b) (list_any is_space run) is in
    by (is_space b) both.0 ∙ ap (onto_first b) (cut run rest both.1)
  where
    by : (c : Bool) → c ≡ false
        → (if c then [] ∷ slice_split is_space (run ++ 32 ∷ rest) else onto_first b (slice_split is_space (run ++ 32 ∷ rest)))
        ≡ onto_first b (slice_split is_space (run ++ 32 ∷ rest))
    by c e = ap (λ t. if t then [] ∷ slice_split is_space (run ++ 32 ∷ rest) else onto_first b (slice_split is_space (run ++ 32 ∷ rest))) e

-- such words are the first fields
abbrev AreRuns : List (List ℕ) → Type 0
AreRuns [] = Unit {0}
AreRuns (word ∷ words) = IsRun word × AreRuns words

cut-all : (words : List (List ℕ)) (rest : List ℕ) → AreRuns words → slice_split is_space (spaced words rest) ≡ words ++ slice_split is_space rest
cut-all [] rest are = refl
cut-all (word ∷ words) rest are = cut word (spaced words rest) are.0 ∙ ap (λ fields. word ∷ fields) (cut-all words rest are.1)

-- `said_by`, of the fields
abbrev said_of : List (List ℕ) → Option PlainSaid
said_of fields =
    let f : ℕ → List ℕ = λ n. slice_index_or fields n [] in
    let state = bytes_eq (f 1) (codes "hard") || bytes_eq (f 1) (codes "soft") in
    if bytes_eq (f 0) (codes "recursion") && bytes_eq (f 2) (codes "at") then Some (record { kind = f 0; state = []; from = f 1; to = [] })
    else if bytes_eq (f 0) (codes "inversion") && bytes_eq (f 2) (codes "->") && bytes_eq (f 4) (codes "at") then Some (record { kind = f 0; state = []; from = f 1; to = f 3 })
    else if bytes_eq (f 0) (codes "conflict") && state && bytes_eq (f 4) (codes "in") then Some (record { kind = f 0; state = f 1; from = f 2; to = [] })
    else if bytes_eq (f 0) (codes "forbidden") && state && bytes_eq (f 4) (codes "in") && bytes_eq (f 6) (codes "->") && bytes_eq (f 9) (codes "on") then Some (record { kind = f 0; state = f 1; from = f 2; to = f 7 })
    else None

-- `recursion A at ..`
pub said-recursion : (a rest : List ℕ) → IsRun a
    → said_by (spaced (codes "recursion" ∷ a ∷ codes "at" ∷ []) rest)
    ≡ Some (record { kind = codes "recursion"; state = []; from = a; to = [] })
said-recursion a rest is_a =
    ap said_of (cut-all (codes "recursion" ∷ a ∷ codes "at" ∷ []) rest (refl, (is_a, (refl, tt))))

-- `inversion A -> B at ..`
pub said-inversion : (a b rest : List ℕ) → IsRun a → IsRun b
    → said_by (spaced (codes "inversion" ∷ a ∷ codes "->" ∷ b ∷ codes "at" ∷ []) rest)
    ≡ Some (record { kind = codes "inversion"; state = []; from = a; to = b })
said-inversion a b rest is_a is_b =
    ap said_of (cut-all (codes "inversion" ∷ a ∷ codes "->" ∷ b ∷ codes "at" ∷ []) rest (refl, (is_a, (refl, (is_b, (refl, tt))))))

-- what is so of both names of a state is so of each
of_states : (Says : List ℕ → Type 0) → Says (codes "hard") → Says (codes "soft") → (state : List ℕ) → IsStateName state → Says state
of_states Says hard soft state (inl is) = subst Says (sym is) hard
of_states Says hard soft state (inr is) = subst Says (sym is) soft

-- `conflict STATE A MARKS in ..`
pub said-conflict : (state a marks rest : List ℕ) → IsStateName state → IsRun a → IsRun marks
    → said_by (spaced (codes "conflict" ∷ state ∷ a ∷ marks ∷ codes "in" ∷ []) rest)
    ≡ Some (record { kind = codes "conflict"; state = state; from = a; to = [] })
said-conflict state a marks rest is is_a are_marks =
    of_states
    (λ name. said_by (spaced (codes "conflict" ∷ name ∷ a ∷ marks ∷ codes "in" ∷ []) rest)
    ≡ Some (record { kind = codes "conflict"; state = name; from = a; to = [] }))
    (ap said_of (cut-all (codes "conflict" ∷ codes "hard" ∷ a ∷ marks ∷ codes "in" ∷ []) rest (refl, (refl, (is_a, (are_marks, (refl, tt)))))))
    (ap said_of (cut-all (codes "conflict" ∷ codes "soft" ∷ a ∷ marks ∷ codes "in" ∷ []) rest (refl, (refl, (is_a, (are_marks, (refl, tt)))))))
    state is

-- `forbidden STATE A MARKS in T:L -> B MARKS on ..`
pub said-forbidden : (state a a_marks place b b_marks rest : List ℕ) → IsStateName state → IsRun a → IsRun a_marks → IsRun place → IsRun b → IsRun b_marks
    → said_by (spaced (codes "forbidden" ∷ state ∷ a ∷ a_marks ∷ codes "in" ∷ place ∷ codes "->" ∷ b ∷ b_marks ∷ codes "on" ∷ []) rest)
    ≡ Some (record { kind = codes "forbidden"; state = state; from = a; to = b })
said-forbidden state a a_marks place b b_marks rest is is_a are_a is_place is_b are_b =
    of_states
    (λ name. said_by (spaced (codes "forbidden" ∷ name ∷ a ∷ a_marks ∷ codes "in" ∷ place ∷ codes "->" ∷ b ∷ b_marks ∷ codes "on" ∷ []) rest)
    ≡ Some (record { kind = codes "forbidden"; state = name; from = a; to = b }))
    (ap said_of (cut-all (codes "forbidden" ∷ codes "hard" ∷ a ∷ a_marks ∷ codes "in" ∷ place ∷ codes "->" ∷ b ∷ b_marks ∷ codes "on" ∷ []) rest
    (refl, (refl, (is_a, (are_a, (refl, (is_place, (refl, (is_b, (are_b, (refl, tt))))))))))))
    (ap said_of (cut-all (codes "forbidden" ∷ codes "soft" ∷ a ∷ a_marks ∷ codes "in" ∷ place ∷ codes "->" ∷ b ∷ b_marks ∷ codes "on" ∷ []) rest
    (refl, (refl, (is_a, (are_a, (refl, (is_place, (refl, (is_b, (are_b, (refl, tt))))))))))))
    state is
