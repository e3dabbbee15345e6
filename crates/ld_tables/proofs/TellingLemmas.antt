-- What is told by words: the dependencies that weren't told before.
use Rattle.std.proofs.Common.{◌≡◌, ◌≢◌, ◌+◌, ◌*◌, ◌^◌, ◌<◌, ◌∷◌, [], ◌++◌, ◌&&◌, ◌||◌, ◌==◌, ◌⊎◌, inl, inr, List, ℕ, Bool, true, false, true≢false, nat_eq, not, ap, ◌∙◌, sym, subst, refl, arith}
use Rattle.std.proofs.Common.{All, cond, flat_map, fold, get_or, length, map, set, w64, if◌then◌else◌, append_assoc}
use Rattle.std.proofs.Math.Bool.{or-false}
use Rattle.std.proofs.lemmas.Bool.{and_from, and_parts, cases_eq, eq-eqb, eqb-true, ne_eqb}
use Rattle.std.proofs.lemmas.Bool.Decides.{Decides-eqb}
use Rattle.std.proofs.lemmas.List.{append-nil, get_or-map, get_or-set_other, get_or-set_same, get_or_append_left, length-map, length-set, length_push}
use Rattle.std.proofs.lemmas.List.Concat.{flat_map-append}
use Rattle.std.proofs.lemmas.List.Elements.{All-head, All-push, All-tail}
use Rattle.std.proofs.lemmas.List.Folds.{list_any-append, list_any_at, list_any_none}
use Rattle.std.proofs.lemmas.Simd.{map-map}
use Rattle.std.proofs.lemmas.List.Quantifiers.{all_pairs_push}
use Rattle.std.specs.Prelude.{bit_and, bit_or}
use Rattle.std.specs.Int.{bit_not}
use Rattle.std.specs.List.{AllPairs, filter, list_any}
use Rattle.ld_class.specs.Blocks.{bits_on, classes_in, is_on}
use Rattle.ld_class.proofs.BlockLemmas.{any-bits_on, bits_on-below, bits_on-left, bits_on-rising, is_on-left, is_on-or}
use Rattle.ld_class.proofs.Mapped.{list_any-map}
use Rattle.ld_rules.proofs.SameLemmas.{filter-alike, fold-new}
use Rattle.ld_tables.specs.declared.edges.EdgeFact.{EdgeFact}
use Rattle.ld_tables.specs.declared.masks.NewEdges.{NewEdges}
use Rattle.ld_tables.specs.declared.masks.Word.{Word}
use Rattle.ld_tables.specs.Inner.Edges.{AreTold, edge_to, edges_in, edges_of, has_told, same_pair, with_edge_fact, word_at}
use Rattle.ld_tables.proofs.WordLemmas.{same_number}

pub any-flat_map : {X Y : Type 0} (p : Y → Bool) (f : X → List Y) (xs : List X) → list_any p (flat_map f xs) ≡ list_any (λ x. list_any p (f x)) xs
any-flat_map p f [] = refl
any-flat_map p f (x ∷ xs) = list_any-append p (f x) (flat_map f xs) ∙ ap (λ b. list_any p (f x) || b) (any-flat_map p f xs)

-- two tests that pass together are one
pub same_test : (a b : Bool) → (a ≡ true → b ≡ true) → (b ≡ true → a ≡ true) → a ≡ b
same_test true b there back = sym (there refl)
same_test false true there back = back refl
same_test false false there back = refl

-- classes of one block are the same where their places are
same_place : (block k j : ℕ) → (64 * block + k == 64 * block + j) ≡ nat_eq k j
same_place block k j = same_test (64 * block + k == 64 * block + j) (nat_eq k j)
    (λ is. let same = eqb-true (64 * block + k) (64 * block + j) is in eq-eqb k j (omega (arith, same)))
    (λ is. let same = eqb-true k j is in eq-eqb (64 * block + k) (64 * block + j) (omega (arith, same)))

-- Whether a dependency was told, by its word.
module _ (words : List Word) (told : List ℕ) (tellings : List NewEdges) (are : AreTold words told tellings) (n : ℕ) (inside : n < length words) (place line : ℕ) (low : place < 64) where
  abbrev word : Word
  word = word_at words n

  abbrev edge : EdgeFact
  edge = edge_to word.to line (64 * word.block + place)

  told-in : (t : NewEdges) → t.number < length words → word_at words t.number ≡ t.word → list_any (same_pair edge) (edges_in t) ≡ (nat_eq n t.number && is_on t.bits place)
  told-in t within is =
      list_any-map (edge_to t.word.to t.line) (same_pair edge) (classes_in t.word.block t.bits)
      ∙ list_any-map (λ j. 64 * t.word.block + j) (λ from. same_pair edge (edge_to t.word.to t.line from)) (bits_on t.bits)
      ∙ by (nat_eq n t.number) refl
    where
      by : (b : Bool) → nat_eq n t.number ≡ b → list_any (λ j. (64 * word.block + place == 64 * t.word.block + j) && (word.to == t.word.to)) (bits_on t.bits) ≡ (b && is_on t.bits place)
      by true same =
          let here : word ≡ t.word = ap (word_at words) (eqb-true n t.number same) ∙ is in
          (λ i. list_any (λ j. (64 * word.block + place == 64 * (sym here i).block + j) && (word.to == (sym here i).to)) (bits_on t.bits))
          ∙ (λ i. list_any (λ j. (same_place word.block place j i) && (eq-eqb word.to word.to refl i)) (bits_on t.bits))
          ∙ (λ i. list_any (λ j. and-true (nat_eq place j) i) (bits_on t.bits))
          ∙ any-bits_on t.bits place low
        where
          and-true : (b : Bool) → (b && true) ≡ b
          and-true true = refl
          and-true false = refl
      by false other = list_any_none (λ j. (64 * word.block + place == 64 * t.word.block + j) && (word.to == t.word.to)) (bits_on t.bits)
          (λ k d below. no (get_or (bits_on t.bits) k d) (bits_on-below t.bits k d below) ((64 * word.block + place == 64 * t.word.block + get_or (bits_on t.bits) k d) && (word.to == t.word.to)) refl)
        where
          no : (j : ℕ) → j < 64 → (b : Bool) → ((64 * word.block + place == 64 * t.word.block + j) && (word.to == t.word.to)) ≡ b → b ≡ false
          no j below false is_b = refl
          no j below true is_b =
              let parts = and_parts (64 * word.block + place == 64 * t.word.block + j) (word.to == t.word.to) is_b in
              let block : word.block ≡ t.word.block = omega (arith, eqb-true (64 * word.block + place) (64 * t.word.block + j) parts.0, low, below) in
              let same : word ≡ t.word = (λ i. record { block = block i; to = eqb-true word.to t.word.to parts.1 i }) in
              absurd (true≢false (sym (eq-eqb n t.number (same_number words are.distinct n t.number inside within (same ∙ sym is))) ∙ other))

  told-each : (ts : List NewEdges) → All (λ (t : NewEdges). t.number < length words) ts → All (λ (t : NewEdges). word_at words t.number ≡ t.word) ts → list_any (same_pair edge) (edges_of ts) ≡ has_told ts n place
  told-each [] within each = refl
  told-each (t ∷ ts) within each =
      list_any-append (same_pair edge) (edges_in t) (edges_of ts)
      ∙ (λ i. told-in t (All-head (λ (t : NewEdges). t.number < length words) t ts within) (All-head (λ (t : NewEdges). word_at words t.number ≡ t.word) t ts each) i
      || told-each ts (All-tail (λ (t : NewEdges). t.number < length words) t ts within) (All-tail (λ (t : NewEdges). word_at words t.number ≡ t.word) t ts each) i)

  pub is-told : list_any (same_pair edge) (edges_of tellings) ≡ is_on (get_or told n 0) place
  is-told = told-each tellings are.within are.each ∙ sym (are.noted n place inside low)

filter-map : {X Y : Type 0} (p : Y → Bool) (f : X → Y) (xs : List X) → filter p (map f xs) ≡ map f (filter (λ x. p (f x)) xs)
filter-map p f [] = refl
filter-map p f (x ∷ xs) = by (p (f x)) (filter-map p f xs)
  where
    by : (b : Bool) → filter p (map f xs) ≡ map f (filter (λ y. p (f y)) xs) → cond b (f x ∷ filter p (map f xs)) (filter p (map f xs)) ≡ map f (cond b (x ∷ filter (λ y. p (f y)) xs) (filter (λ y. p (f y)) xs))
    by true rest = ap (λ ys. f x ∷ ys) rest
    by false rest = rest

-- The dependencies of a mask: those that weren't told come behind the others.
module _ (words : List Word) (told : List ℕ) (tellings : List NewEdges) (are : AreTold words told tellings) (n : ℕ) (inside : n < length words) (bits line : ℕ) (small : get_or told n 0 < 2 ^ 64) where
  abbrev those : Word
  those = word_at words n

  abbrev known : ℕ
  known = get_or told n 0

  abbrev left : ℕ
  left = bit_and bits (bit_not w64 known)

  abbrev told_by : ℕ → EdgeFact
  told_by place = edge_to those.to line (64 * those.block + place)

  apart-by : (xs : List ℕ) → AllPairs (λ i j. i < j) xs → AllPairs (λ d e. same_pair e d ≡ false) (map (edge_to those.to line) (map (λ place. 64 * those.block + place) xs))
  apart-by xs rising i j d before within =
      let maps : map (edge_to those.to line) (map (λ place. 64 * those.block + place) xs) ≡ map told_by xs = map-map (edge_to those.to line) (λ place. 64 * those.block + place) xs in
      let many : length (map (edge_to those.to line) (map (λ place. 64 * those.block + place) xs)) ≡ length xs = ap length maps ∙ length-map xs told_by in
      let low_j : j < length xs = omega (arith, within, many) in
      let low_i : i < length xs = omega (arith, low_j, before) in
      (λ k. same_pair (get_or (maps k) j d) (get_or (maps k) i d))
      ∙ (λ k. same_pair (get_or-map told_by xs j 0 d low_j k) (get_or-map told_by xs i 0 d low_i k))
      ∙ ap (λ b. b && (those.to == those.to)) (same_place those.block (get_or xs j 0) (get_or xs i 0) ∙ ne_eqb (get_or xs j 0) (get_or xs i 0) (λ same. let low = rising i j 0 before low_j in omega (arith, low, same)))

  pub tell-mask : edges_of tellings ++ map (edge_to those.to line) (classes_in those.block left) ≡ fold with_edge_fact (edges_of tellings) (map (edge_to those.to line) (classes_in those.block bits))
  tell-mask =
      sym (fold-new same_pair (edges_of tellings) (map (edge_to those.to line) (classes_in those.block bits)) (apart-by (bits_on bits) (bits_on-rising bits))
      ∙ ap (λ es. edges_of tellings ++ es)
      (filter-map untold (edge_to those.to line) (classes_in those.block bits)
      ∙ ap (map (edge_to those.to line)) (filter-map (λ from. untold (edge_to those.to line from)) (λ place. 64 * those.block + place) (bits_on bits)
      ∙ ap (map (λ place. 64 * those.block + place)) (filter-alike (λ place. untold (told_by place)) (λ place. not (is_on known place)) (bits_on bits)
      (λ k d within. ap not (is-told words told tellings are n inside (get_or (bits_on bits) k d) line (bits_on-below bits k d within)))
      ∙ sym (bits_on-left bits known small)))))
    where
      untold : EdgeFact → Bool
      untold e = not (list_any (same_pair e) (edges_of tellings))

  -- what is told once these bits are
  abbrev telling : NewEdges
  telling = record { number = n; word = those; bits = left; line = line }

  pub told-mask : 0 < left → AreTold words (set told n (bit_or known left)) (tellings ++ telling ∷ [])
  told-mask some = record {
    distinct = are.distinct;
    low = are.low;
    many = length-set told n (bit_or known left) ∙ are.many;
    within = All-push (λ (t : NewEdges). t.number < length words) tellings telling are.within inside;
    each = All-push (λ (t : NewEdges). word_at words t.number ≡ t.word) tellings telling are.each refl;
    some = All-push (λ (t : NewEdges). 0 < t.bits) tellings telling are.some some;
    noted = λ m place within low. noted m place within low (cases_eq m n);
    apart = all_pairs_push (λ (s t : NewEdges). (k : ℕ) → k < 64 → s.number ≡ t.number → is_on s.bits k ≡ true → is_on t.bits k ≡ false) tellings telling are.apart
        (λ k d within place low same on. is_on-left bits known place small low ∙ none place (was k d within place low same on) (is_on bits place));
  }
    where
      was : (k : ℕ) (d : NewEdges) → k < length tellings → (place : ℕ) → place < 64 → (get_or tellings k d).number ≡ n → is_on (get_or tellings k d).bits place ≡ true → is_on known place ≡ true
      was k d within place low same on =
          are.noted n place inside low
          ∙ list_any_at (λ (t : NewEdges). nat_eq n t.number && is_on t.bits place) tellings k d within (and_from (nat_eq n (get_or tellings k d).number) (is_on (get_or tellings k d).bits place) (eq-eqb n (get_or tellings k d).number (sym same)) on)

      none : (place : ℕ) → is_on known place ≡ true → (b : Bool) → (b && not (is_on known place)) ≡ false
      none place on true = ap not on
      none place on false = refl

      noted : (m place : ℕ) → m < length words → place < 64 → (m ≡ n) ⊎ (m ≢ n) → is_on (get_or (set told n (bit_or known left)) m 0) place ≡ has_told (tellings ++ telling ∷ []) m place
      noted m place within low (inl here) =
          ap (λ bits. is_on bits place) (ap (λ k. get_or (set told n (bit_or known left)) k 0) here ∙ get_or-set_same told n (bit_or known left) 0 (omega (arith, inside, are.many)))
          ∙ is_on-or known left place
          ∙ (λ i. are.noted n place inside low i || sym (or-false (is_on left place)) i)
          ∙ ap (λ b. has_told tellings n place || ((b && is_on left place) || false)) (sym (eq-eqb n n refl))
          ∙ sym (list_any-append (λ (t : NewEdges). nat_eq n t.number && is_on t.bits place) tellings (telling ∷ []))
          ∙ ap (λ k. has_told (tellings ++ telling ∷ []) k place) (sym here)
      noted m place within low (inr other) =
          ap (λ bits. is_on bits place) (get_or-set_other told n m (bit_or known left) 0 other)
          ∙ are.noted m place within low
          ∙ sym (or-false (has_told tellings m place))
          ∙ ap (λ b. has_told tellings m place || ((b && is_on left place) || false)) (sym (ne_eqb m n other))
          ∙ sym (list_any-append (λ (t : NewEdges). nat_eq m t.number && is_on t.bits place) tellings (telling ∷ []))

  pub edges-mask : edges_of (tellings ++ telling ∷ []) ≡ fold with_edge_fact (edges_of tellings) (map (edge_to those.to line) (classes_in those.block bits))
  edges-mask = flat_map-append edges_in tellings (telling ∷ []) ∙ ap (λ es. edges_of tellings ++ es) (append-nil (edges_in telling)) ∙ tell-mask
