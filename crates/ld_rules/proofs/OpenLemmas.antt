-- What is open of a list, one element at a time.
use Rattle.std.proofs.Common.{◌≡◌, ◌≤◌, ◌<◌, ◌+◌, ◌-◌, ◌++◌, ◌∷◌, [], List, ℕ, zero, suc, Bool, true, false, ◌&&◌, ◌||◌, cond, eqb, leb, length, take}
use Rattle.std.proofs.Common.{drop, Option, Some, None, refl, ap, sym, ◌∙◌, arith, append_assoc, length-append, count_by, filter_map, if◌then◌else◌}
use Rattle.std.proofs.Math.Bool.{and-false}
use Rattle.std.proofs.lemmas.Bool.Decides.{nat_tests}
use Rattle.std.proofs.lemmas.Bool.{true≢false, or_parts, le-leb, lt-leb, ne_eqb, eqb-true}
use Rattle.std.proofs.lemmas.List.{take-append-le, take_all, append-nil, drop_at}
use Rattle.std.proofs.lemmas.List.Folds.{list_all-append}
use Rattle.std.proofs.lemmas.List.Sums.{sum_by-cons, sum_by_push}
use Rattle.std.specs.Bool.{Decides}
use Rattle.std.specs.List.{cons_option, enumerate_from, list_all, list_any, range_with_len}
use Rattle.ld_rules.specs.Inner.Scanned.{remove_last}
use Rattle.ld_rules.specs.Open.{Opening, is_some_and, is_open, opening_at, openings}

-- the numbers of a range, all moved by i
all_shifted : (f : ℕ → Bool) (i a m : ℕ) → list_all (λ q. f (q - i)) (range_with_len (i + a) m) ≡ list_all f (range_with_len a m)
all_shifted f i a zero = refl
all_shifted f i a (suc m) =
    let here : (i + a) - i ≡ a = omega arith in
    let next : (i + a) + 1 ≡ i + (a + 1) = omega arith in
    rw (here, next, all_shifted f i (a + 1) m) refl

-- two tests that agree from a up to a + m
all_agree : (f g : ℕ → Bool) (a m : ℕ) → ((n : ℕ) → a ≤ n → n < a + m → f n ≡ g n) → list_all f (range_with_len a m) ≡ list_all g (range_with_len a m)
all_agree f g a zero h = refl
all_agree f g a (suc m) h =
    let here : f a ≡ g a = h a (omega arith) (omega arith) in
    let rest = all_agree f g (a + 1) m (λ n low high. h n (omega arith) (omega arith)) in
    rw (here, rest) refl

range_more : (a m : ℕ) → range_with_len a (suc m) ≡ range_with_len a m ++ (a + m) ∷ []
range_more a zero = let e : a ≡ a + 0 = omega arith in ap (λ n. n ∷ []) e
range_more a (suc m) = let e : (a + 1) + m ≡ a + suc m = omega arith in ap (λ xs. a ∷ xs) (range_more (a + 1) m ∙ ap (λ n. range_with_len (a + 1) m ++ n ∷ []) e)

module _ {X : Type 0} (opens closes : X → Bool) where
  -- no more closes than opens in a front of the list
  abbrev is_even : List X → Bool
  is_even front = leb (count_by closes front) (count_by opens front)

  -- in each front of what follows, no more closes than opens
  abbrev pub stays : List X → Bool
  stays later = list_all (λ n. is_even (take n later)) (range_with_len 1 (length later))

  pub stays-push : (later : List X) (x : X) → stays (later ++ x ∷ []) ≡ (stays later && is_even (later ++ x ∷ []))
  stays-push later x =
      let long : length (later ++ x ∷ []) ≡ suc (length later) = length-append later (x ∷ []) ∙ omega arith in
      let whole : take (1 + length later) (later ++ x ∷ []) ≡ later ++ x ∷ [] = take_all (1 + length later) (later ++ x ∷ []) (omega arith) in
      let front : list_all (λ n. is_even (take n (later ++ x ∷ []))) (range_with_len 1 (length later)) ≡ stays later =
      all_agree (λ n. is_even (take n (later ++ x ∷ []))) (λ n. is_even (take n later)) 1 (length later) (λ n low high. ap is_even (take-append-le n later (x ∷ []) (omega arith))) in
      ap (λ n. list_all (λ n. is_even (take n (later ++ x ∷ []))) (range_with_len 1 n)) long
      ∙ ap (list_all (λ n. is_even (take n (later ++ x ∷ [])))) (range_more 1 (length later))
      ∙ list_all-append (λ n. is_even (take n (later ++ x ∷ []))) (range_with_len 1 (length later)) ((1 + length later) ∷ [])
      ∙ rw (front, whole) (by (is_even (later ++ x ∷ [])))
    where
      by : (b : Bool) → (stays later && (b && true)) ≡ (stays later && b)
      by true = refl
      by false = refl

  -- Where no element both opens and closes: how much closes in some front beyond what opens there, at
  -- the front where that is most.
  abbrev deficit : List X → ℕ
  deficit [] = 0
  deficit (x ∷ later) = cond (opens x) (deficit later - 1) (cond (closes x) (1 + deficit later) (deficit later))

  -- each front has at most a more closes than opens
  abbrev within : ℕ → List X → Bool
  within a later = list_all (λ n. leb (count_by closes (take n later)) (count_by opens (take n later) + a)) (range_with_len 1 (length later))

  -- what `within` asks of a front of n elements, behind elements that close c and open o
  abbrev slack_at : ℕ → ℕ → ℕ → List X → ℕ → Bool
  slack_at c o a later n = leb (c + count_by closes (take n later)) ((o + count_by opens (take n later)) + a)

  within-cons_at : (a : ℕ) (x : X) (later : List X) (n : ℕ) → 2 ≤ n → leb (count_by closes (take n (x ∷ later)))
      (count_by opens (take n (x ∷ later)) + a) ≡ slack_at (cond (closes x) 1 0) (cond (opens x) 1 0) a later (n - 1)
  within-cons_at a x later zero low = absurd (omega arith)
  within-cons_at a x later (suc n) low =
      let less : suc n - 1 ≡ n = omega arith in
      rw (less, sum_by-cons (λ y. cond (closes y) 1 0) x (take n later), sum_by-cons (λ y. cond (opens y) 1 0) x (take n later)) refl

  within-cons : (a : ℕ) (x : X) (later : List X) → within a (x ∷ later) ≡ (leb (cond (closes x) 1 0) (cond (opens x) 1 0 + a) && list_all
      (slack_at (cond (closes x) 1 0) (cond (opens x) 1 0) a later) (range_with_len 1 (length later)))
  within-cons a x later =
      let closing : 0 + cond (closes x) 1 0 ≡ cond (closes x) 1 0 = omega arith in
      let opening : 0 + cond (opens x) 1 0 ≡ cond (opens x) 1 0 = omega arith in
      let rest =
      all_agree (λ n. leb (count_by closes (take n (x ∷ later))) (count_by opens (take n (x ∷ later)) + a))
      (λ n. slack_at (cond (closes x) 1 0) (cond (opens x) 1 0) a later (n - 1)) 2 (length later) (λ n low high. within-cons_at a x later n low)
      ∙ all_shifted (slack_at (cond (closes x) 1 0) (cond (opens x) 1 0) a later) 1 1 (length later) in
      (λ i. leb (closing i) (opening i + a) && rest i)

  -- a first element that closes
  within-closing : (later : List X) → ((b : ℕ) → within b later ≡ leb (deficit later) b) → (a : ℕ) →
      (leb 1 (0 + a) && list_all (slack_at 1 0 a later) (range_with_len 1 (length later))) ≡ leb (1 + deficit later) a
  within-closing later rest zero =
      let none : leb 1 (0 + 0) ≡ false = lt-leb 1 (0 + 0) (omega arith) in
      let short : leb (1 + deficit later) 0 ≡ false = lt-leb (1 + deficit later) 0 (omega arith) in
      rw (none, short) refl
  within-closing later rest (suc a) =
      let some : leb 1 (0 + suc a) ≡ true = le-leb 1 (0 + suc a) (omega arith) in
      rw some (all_agree (slack_at 1 0 (suc a) later) (λ n. leb (count_by closes (take n later)) (count_by opens (take n later) + a)) 1 (length later) (λ n low high. grind (arith, nat_tests))
      ∙ rest a ∙ grind (arith, nat_tests))

  within_is : (later : List X) → ((x : X) → opens x ≡ true → closes x ≡ false) → (a : ℕ) → within a later ≡ leb (deficit later) a
  within_is [] apart a = sym (le-leb 0 a (omega arith))
  within_is (x ∷ later) apart a = within-cons a x later ∙ by (within_is later apart) (opens x) refl (closes x) refl
    where
      by : ((b : ℕ) → within b later ≡ leb (deficit later) b) → (o : Bool) → opens x ≡ o → (c : Bool) → closes x ≡ c →
          (leb (cond c 1 0) (cond o 1 0 + a) && list_all (slack_at (cond c 1 0) (cond o 1 0) a later) (range_with_len 1 (length later))) ≡ leb
          (cond o (deficit later - 1) (cond c (1 + deficit later) (deficit later))) a
      by rest true o true c = absurd (true≢false (sym c ∙ apart x o))
      by rest true o false c =
          let some : leb 0 (1 + a) ≡ true = le-leb 0 (1 + a) (omega arith) in
          rw some (all_agree (slack_at 0 1 a later) (λ n. leb (count_by closes (take n later)) (count_by opens (take n later) + (1 + a))) 1 (length later) (λ n low high. grind (arith, nat_tests))
          ∙ rest (1 + a) ∙ grind (arith, nat_tests))
      by rest false o true c = within-closing later rest a
      by rest false o false c =
          let some : leb 0 (0 + a) ≡ true = le-leb 0 (0 + a) (omega arith) in
          rw some (all_agree (slack_at 0 0 a later) (λ n. leb (count_by closes (take n later)) (count_by opens (take n later) + a)) 1 (length later) (λ n low high. grind (arith, nat_tests))
          ∙ rest a)

  stays_is : (later : List X) → ((x : X) → opens x ≡ true → closes x ≡ false) → stays later ≡ eqb (deficit later) 0
  stays_is later apart =
      all_agree (λ n. is_even (take n later)) (λ n. leb (count_by closes (take n later)) (count_by opens (take n later) + 0)) 1 (length later) (λ n low high. grind (arith, nat_tests))
      ∙ within_is later apart 0 ∙ grind (arith, nat_tests)

-- where none passes, none is removed
pub remove_last-none : {X : Type 0} (p : X → Bool) (xs : List X) → list_any p xs ≡ false → remove_last p xs ≡ xs
remove_last-none p [] none = refl
remove_last-none p (x ∷ xs) none =
    let parts = or_parts (p x) (list_any p xs) none in
    rw (parts.1, parts.0) refl

-- a first element that fails stays, and one that passes stays where a later one does
pub remove_last-skip : {X : Type 0} (p : X → Bool) (x : X) (xs : List X) → p x ≡ false → remove_last p (x ∷ xs) ≡ x ∷ remove_last p xs
remove_last-skip p x xs fails = by (list_any p xs) refl
  where
    by : (b : Bool) → list_any p xs ≡ b → cond b (x ∷ remove_last p xs) (cond (p x) xs (x ∷ xs)) ≡ x ∷ remove_last p xs
    by true is = refl
    by false is = rw (fails, remove_last-none p xs is) refl

remove_last-here : {X : Type 0} (p : X → Bool) (x : X) (xs : List X) → p x ≡ true → remove_last p (x ∷ xs) ≡ cons_option (if list_any p xs then Some x else None) (remove_last p xs)
remove_last-here p x xs passes = by (list_any p xs) refl
  where
    by : (b : Bool) → list_any p xs ≡ b → cond b (x ∷ remove_last p xs) (cond (p x) xs (x ∷ xs)) ≡ cons_option (if b then Some x else None) (remove_last p xs)
    by true is = refl
    by false is = rw (passes, remove_last-none p xs is) refl

-- a count is some where an element passes
any_is_count : {X : Type 0} (p : X → Bool) (xs : List X) → list_any p xs ≡ leb 1 (count_by p xs)
any_is_count p [] = sym (lt-leb 1 0 (omega arith))
any_is_count p (x ∷ xs) = rw (sum_by-cons (λ y. cond (p y) 1 0) x xs, any_is_count p xs) (by (p x) (count_by p xs))
  where
    by : (b : Bool) (n : ℕ) → (b || leb 1 n) ≡ leb 1 (cond b 1 0 + n)
    by true n = sym (le-leb 1 (1 + n) (omega arith))
    by false n = grind (arith, nat_tests)

count_none : (r c o d : ℕ) (b : Bool) → r + c ≡ o + d → r + (cond b 1 0 + c) ≡ (0 + o) + cond b (1 + d) d
count_none r c o d true h = omega arith
count_none r c o d false h = omega arith

count_some : (r c o d : ℕ) (b : Bool) → r + c ≡ o + d → (cond (b && eqb d 0) 1 0 + r) + (0 + c) ≡ (cond b 1 0 + o) + cond b (d - 1) d
count_some r c o zero true h = omega arith
count_some r c o (suc d) true h = let shut : eqb (suc d) 0 ≡ false = ne_eqb (suc d) 0 (λ e. omega arith) in rw shut (omega arith)
count_some r c o d false h = omega arith

cons_option-append : {X : Type 0} (o : Option X) (xs ys : List X) → cons_option o xs ++ ys ≡ cons_option o (xs ++ ys)
cons_option-append None xs ys = refl
cons_option-append (Some x) xs ys = refl

and_true : (b : Bool) → (b && true) ≡ b
and_true true = refl
and_true false = refl

-- what the laws below ask of keys: the test tells equal keys, and no element both opens and closes
pub record HasKeys {X K : Type 0} (same : K → K → Bool) (opened closed : X → Option K) : Type 0 where
  pub decides : (a b : K) → Decides (same a b) (a ≡ b)
  pub apart : (x : X) (key : K) → opened x ≡ Some key → closed x ≡ None

module _ {X K : Type 0} (same : K → K → Bool) (opened closed : X → Option K) where
  abbrev opens : K → X → Bool
  opens key x = is_some_and (same key) (opened x)

  abbrev closes : K → X → Bool
  closes key x = is_some_and (same key) (closed x)

  abbrev has : K → Opening X K → Bool
  has key o = same key o.key

  -- what x at place n opened, where it is open after what follows
  abbrev opening_before : ℕ → X → List X → Option K → Option (Opening X K)
  opening_before n x later None = None
  opening_before n x later (Some key) = if stays (opens key) (closes key) later then Some (record { place = n; element = x; key = key }) else None

  -- what is open of a list, whose first element is at place n
  abbrev pub openings_from : ℕ → List X → List (Opening X K)
  openings_from n [] = []
  openings_from n (x ∷ later) = cons_option (opening_before n x later (opened x)) (openings_from (n + 1) later)

  is_open_is : (front : List X) (x : X) (later : List X) (key : K) → is_open same opened closed (front ++ x ∷ later) (length front) key ≡ stays (opens key) (closes key) later
  is_open_is front x later key =
      let longer : length (front ++ x ∷ []) ≡ length front + 1 = omega (arith, length-append front (x ∷ [])) in
      let rest : drop (length front + 1) (front ++ x ∷ later) ≡ later = ap (drop (length front + 1)) (sym (append_assoc front (x ∷ []) later)) ∙
      drop_at (front ++ x ∷ []) later (length front + 1) longer in
      let count : length (front ++ x ∷ later) - (length front + 1) ≡ length later = omega (arith, length-append front (x ∷ later)) in
      rw (rest, count) (all_shifted (λ n. leb (count_by (closes key) (take n later)) (count_by (opens key) (take n later))) (length front) 1 (length later))

  opening_is : (front : List X) (x : X) (later : List X) (key : Option K) → opening_at same opened closed (front ++ x ∷ later) (length front) x key ≡ opening_before (length front) x later key
  opening_is front x later None = refl
  opening_is front x later (Some key) = rw (is_open_is front x later key) refl

  openings_along : (front xs : List X) → filter_map (λ p. opening_at same opened closed (front ++ xs) p.0 p.1 (opened p.1)) (enumerate_from (length front) xs) ≡ openings_from (length front) xs
  openings_along front [] = refl
  openings_along front (x ∷ later) =
      let again = openings_along (front ++ x ∷ []) later in
      let longer : length (front ++ x ∷ []) ≡ length front + 1 = omega (arith, length-append front (x ∷ [])) in
      let joined : (front ++ x ∷ []) ++ later ≡ front ++ x ∷ later = append_assoc front (x ∷ []) later in
      let rest : filter_map (λ p. opening_at same opened closed (front ++ x ∷ later) p.0 p.1 (opened p.1)) (enumerate_from (length front + 1) later) ≡ openings_from (length front + 1) later =
      (λ i. filter_map (λ p. opening_at same opened closed (sym joined i) p.0 p.1 (opened p.1)) (enumerate_from (sym longer i) later)) ∙ again ∙ ap (λ n. openings_from n later) longer in
      (λ i. cons_option (opening_is front x later (opened x) i) (rest i))

  openings_is : (xs : List X) → openings same opened closed xs ≡ openings_from 0 xs
  openings_is xs = openings_along [] xs

module _ {X K : Type 0} (same : K → K → Bool) (opened closed : X → Option K) (keys : HasKeys same opened closed) where
  -- an element that opens under one key closes under none
  opens_apart : (key : K) (x : X) → opens same opened closed key x ≡ true → closes same opened closed key x ≡ false
  opens_apart key x h = by (opened x) refl
    where
      by : (o : Option K) → opened x ≡ o → is_some_and (same key) (closed x) ≡ false
      by None is = absurd (true≢false (sym h ∙ ap (is_some_and (same key)) is))
      by (Some k) is = ap (is_some_and (same key)) (keys.apart x k is)

  count_opening : (key : K) (n : ℕ) (x : X) (later : List X) (k : K) (others : List (Opening X K)) → count_by (has same opened closed key)
      (cons_option (opening_before same opened closed n x later (Some k)) others) ≡ cond
      (same key k && stays (opens same opened closed k) (closes same opened closed k) later) 1 0 + count_by (has same opened closed key) others
  count_opening key n x later k others = by (stays (opens same opened closed k) (closes same opened closed k) later)
    where
      by : (b : Bool) → count_by (has same opened closed key) (cons_option (if b then Some (record { place = n; element = x; key = k }) else None)
          others) ≡ cond (same key k && b) 1 0 + count_by (has same opened closed key) others
      by true = sum_by-cons (λ o. cond (has same opened closed key o) 1 0) (record { place = n; element = x; key = k }) others ∙ ap
          (λ b. cond b 1 0 + count_by (has same opened closed key) others) (sym (and_true (same key k)))
      by false = let none : count_by (has same opened closed key) others ≡ 0 + count_by (has same opened closed key) others = omega arith in
          none ∙ ap (λ b. cond b 1 0 + count_by (has same opened closed key) others) (sym (and-false (same key k)))

  -- a key that is the same stays as long
  stays_same : (key k : K) (later : List X) → (same key k && stays (opens same opened closed k) (closes same opened closed k) later) ≡
      (same key k && eqb (deficit (opens same opened closed key) (closes same opened closed key) later) 0)
  stays_same key k later = by (same key k) refl
    where
      by : (b : Bool) → same key k ≡ b → (b && stays (opens same opened closed k) (closes same opened closed k) later) ≡
          (b && eqb (deficit (opens same opened closed key) (closes same opened closed key) later) 0)
      by true is = ap (λ k. stays (opens same opened closed k) (closes same opened closed k) later) (sym ((keys.decides key k).0 is)) ∙ stays_is
          (opens same opened closed key) (closes same opened closed key) later (opens_apart key)
      by false is = refl

  -- the opens of what follows, but for its closings, are those that are still open
  counted : (key : K) (n : ℕ) (later : List X) → count_by (has same opened closed key) (openings_from same opened closed n later) + count_by
      (closes same opened closed key) later ≡ count_by (opens same opened closed key) later + deficit (opens same opened closed key) (closes same opened closed key) later
  counted key n [] = refl
  counted key n (x ∷ later) =
      rw (sum_by-cons (λ y. cond (closes same opened closed key y) 1 0) x later, sum_by-cons (λ y. cond (opens same opened closed key y) 1 0) x later) (by (opened x) refl (counted key (n + 1) later))
    where
      by : (o : Option K) → opened x ≡ o → (rest : count_by (has same opened closed key) (openings_from same opened closed (n + 1) later) + count_by
          (closes same opened closed key) later ≡ count_by (opens same opened closed key) later + deficit (opens same opened closed key)
          (closes same opened closed key) later) → count_by (has same opened closed key)
          (cons_option (opening_before same opened closed n x later o) (openings_from same opened closed (n + 1) later)) +
          (cond (closes same opened closed key x) 1 0 + count_by (closes same opened closed key) later) ≡
          (cond (is_some_and (same key) o) 1 0 + count_by (opens same opened closed key) later) + cond (is_some_and (same key) o)
          (deficit (opens same opened closed key) (closes same opened closed key) later - 1)
          (cond (closes same opened closed key x) (1 + deficit (opens same opened closed key) (closes same opened closed key) later)
          (deficit (opens same opened closed key) (closes same opened closed key) later))
      by None is rest = count_none _ _ _ _ (closes same opened closed key x) rest
      by (Some k) is rest =
          let shut : closes same opened closed key x ≡ false = ap (is_some_and (same key)) (keys.apart x k is) in
          rw (count_opening key n x later k (openings_from same opened closed (n + 1) later), stays_same key k later, shut) (count_some _ _ _ _ (same key k) rest)

  -- a key under which x doesn't close stays as long with x behind
  stays_kept : (key : K) (later : List X) (x : X) → closes same opened closed key x ≡ false → stays (opens same opened closed key)
      (closes same opened closed key) (later ++ x ∷ []) ≡ stays (opens same opened closed key) (closes same opened closed key) later
  stays_kept key later x shut = stays-push (opens same opened closed key) (closes same opened closed key) later x ∙ by (stays (opens same opened closed key) (closes same opened closed key) later) refl
    where
      by : (b : Bool) → stays (opens same opened closed key) (closes same opened closed key) later ≡ b →
          (b && is_even (opens same opened closed key) (closes same opened closed key) (later ++ x ∷ [])) ≡ b
      by true is =
          let all = counted key 0 later in
          let none : deficit (opens same opened closed key) (closes same opened closed key) later ≡ 0 = eqb-true _ _
          (sym (stays_is (opens same opened closed key) (closes same opened closed key) later (opens_apart key)) ∙ is) in
          rw (sum_by_push (λ y. cond (closes same opened closed key y) 1 0) later x, sum_by_push (λ y. cond (opens same opened closed key y) 1 0) later x, shut) (le-leb _ _ (omega arith))
      by false is = refl

  -- one under which x closes stays where it was opened again meanwhile
  stays_where_again : (key : K) (n : ℕ) (later : List X) (x : X) → closes same opened closed key x ≡ true → opens same opened closed key x ≡ false →
      stays (opens same opened closed key) (closes same opened closed key) (later ++ x ∷ []) ≡
      (stays (opens same opened closed key) (closes same opened closed key) later && list_any (has same opened closed key) (openings_from same opened closed n later))
  stays_where_again key n later x shut not_opened = stays-push (opens same opened closed key) (closes same opened closed key) later x ∙ by
      (stays (opens same opened closed key) (closes same opened closed key) later) refl
    where
      by : (b : Bool) → stays (opens same opened closed key) (closes same opened closed key) later ≡ b →
          (b && is_even (opens same opened closed key) (closes same opened closed key) (later ++ x ∷ [])) ≡ (b && list_any (has same opened closed key) (openings_from same opened closed n later))
      by true is =
          let all = counted key n later in
          let none : deficit (opens same opened closed key) (closes same opened closed key) later ≡ 0 = eqb-true _ _
          (sym (stays_is (opens same opened closed key) (closes same opened closed key) later (opens_apart key)) ∙ is) in
          rw (
            sum_by_push (λ y. cond (closes same opened closed key y) 1 0) later x,
            sum_by_push (λ y. cond (opens same opened closed key y) 1 0)
                later x,
            shut,
            not_opened,
            any_is_count (has same opened closed key) (openings_from same opened closed n later),
          ) (grind (arith, nat_tests))
      by false is = refl

  opening_kept : (n : ℕ) (x : X) (later : List X) (e : X) (key : Option K) → closed e ≡ None → opening_before same opened closed n x (later ++ e ∷ [])
      key ≡ opening_before same opened closed n x later key
  opening_kept n x later e None shut = refl
  opening_kept n x later e (Some k) shut = rw (stays_kept k later e (ap (is_some_and (same k)) shut)) refl

  -- what doesn't close adds what it opens
  openings_kept : (n : ℕ) (xs : List X) (e : X) → closed e ≡ None → openings_from same opened closed n (xs ++ e ∷ []) ≡ openings_from same opened
      closed n xs ++ openings_from same opened closed (n + length xs) (e ∷ [])
  openings_kept n [] e shut = let same_place : n + 0 ≡ n = omega arith in rw same_place refl
  openings_kept n (x ∷ later) e shut =
      let next : (n + 1) + length later ≡ n + suc (length later) = omega arith in
      let rest : openings_from same opened closed (n + 1) (later ++ e ∷ []) ≡ openings_from same opened closed (n + 1) later ++ openings_from same opened closed (n + suc (length later)) (e ∷ []) =
      openings_kept (n + 1) later e shut ∙ ap (λ m. openings_from same opened closed (n + 1) later ++ openings_from same opened closed m (e ∷ [])) next in
      (λ i. cons_option (opening_kept n x later e (opened x) shut i) (rest i))
      ∙ sym (cons_option-append (opening_before same opened closed n x later (opened x)) (openings_from same opened closed (n + 1) later)
      (openings_from same opened closed (n + suc (length later)) (e ∷ [])))

  -- what closes opens nothing
  closes_apart : (e : X) (k : K) → closed e ≡ Some k → opened e ≡ None
  closes_apart e k shut = by (opened e) refl
    where
      by : (o : Option K) → opened e ≡ o → o ≡ None
      by None is = refl
      by (Some other) is = let none = keys.apart e other is in cc

  -- the same key, told from either side
  same_swapped : (a b : K) → same a b ≡ same b a
  same_swapped a b = by (same a b) (same b a) refl refl
    where
      by : (x y : Bool) → same a b ≡ x → same b a ≡ y → x ≡ y
      by true true h g = refl
      by false false h g = refl
      by true false h g = absurd (true≢false (sym ((keys.decides b a).1 (sym ((keys.decides a b).0 h))) ∙ g))
      by false true h g = absurd (true≢false (sym ((keys.decides a b).1 (sym ((keys.decides b a).0 g))) ∙ h))

  opening_closed : (n : ℕ) (x : X) (later : List X) (e : X) (k key : K) → closed e ≡ Some k → openings_from same opened closed (n + 1)
      (later ++ e ∷ []) ≡ remove_last (has same opened closed k) (openings_from same opened closed (n + 1) later) → cons_option
      (opening_before same opened closed n x (later ++ e ∷ []) (Some key)) (openings_from same opened closed (n + 1) (later ++ e ∷ [])) ≡ remove_last
      (has same opened closed k) (cons_option (opening_before same opened closed n x later (Some key)) (openings_from same opened closed (n + 1) later))
  opening_closed n x later e k key shut rest = ap (cons_option (opening_before same opened closed n x (later ++ e ∷ []) (Some key))) rest ∙ by (same k key) refl
    where
      by : (b : Bool) → same k key ≡ b → cons_option (opening_before same opened closed n x (later ++ e ∷ []) (Some key))
          (remove_last (has same opened closed k) (openings_from same opened closed (n + 1) later)) ≡ remove_last (has same opened closed k)
          (cons_option (opening_before same opened closed n x later (Some key)) (openings_from same opened closed (n + 1) later))
      by false is = rw (stays_kept key later e (ap (is_some_and (same key)) shut ∙ same_swapped key k ∙ is)) (if_stays (stays (opens same opened closed key) (closes same opened closed key) later))
        where
          if_stays : (b : Bool) → cons_option (if b then Some (record { place = n; element = x; key = key }) else None)
              (remove_last (has same opened closed k) (openings_from same opened closed (n + 1) later)) ≡ remove_last (has same opened closed k)
              (cons_option (if b then Some (record { place = n; element = x; key = key }) else None) (openings_from same opened closed (n + 1) later))
          if_stays true = sym (remove_last-skip (has same opened closed k) (record { place = n; element = x; key = key }) (openings_from same opened closed (n + 1) later) is)
          if_stays false = refl
      by true is =
          let one : k ≡ key = (keys.decides k key).0 is in
          rw (
            stays_where_again key (n + 1) later e (ap (is_some_and (same key)) shut ∙ same_swapped key k ∙ is)
                (ap (is_some_and (same key)) (closes_apart e k shut)),
            ← one,
          ) (if_stays (stays (opens same opened closed k) (closes same opened closed k) later))
        where
          if_stays : (b : Bool) → cons_option (if b && list_any (has same opened closed k) (openings_from same opened closed (n + 1) later) then Some
              (record { place = n; element = x; key = k }) else None) (remove_last (has same opened closed k)
              (openings_from same opened closed (n + 1) later)) ≡ remove_last (has same opened closed k)
              (cons_option (if b then Some (record { place = n; element = x; key = k }) else None) (openings_from same opened closed (n + 1) later))
          if_stays true = sym (remove_last-here (has same opened closed k) (record { place = n; element = x; key = k }) (openings_from same opened closed (n + 1) later) ((keys.decides k k).1 refl))
          if_stays false = refl

  -- what closes ends the latest that is open under its key
  openings_closed : (n : ℕ) (xs : List X) (e : X) (k : K) → closed e ≡ Some k → openings_from same opened closed n (xs ++ e ∷ []) ≡ remove_last
      (has same opened closed k) (openings_from same opened closed n xs)
  openings_closed n [] e k shut = rw (closes_apart e k shut) refl
  openings_closed n (x ∷ later) e k shut = by (opened x) (openings_closed (n + 1) later e k shut)
    where
      by : (o : Option K) → openings_from same opened closed (n + 1) (later ++ e ∷ []) ≡ remove_last (has same opened closed k)
          (openings_from same opened closed (n + 1) later) → cons_option (opening_before same opened closed n x (later ++ e ∷ []) o)
          (openings_from same opened closed (n + 1) (later ++ e ∷ [])) ≡ remove_last (has same opened closed k)
          (cons_option (opening_before same opened closed n x later o) (openings_from same opened closed (n + 1) later))
      by None rest = rest
      by (Some key) rest = opening_closed n x later e k key shut rest

  -- What is open once one more element stands behind: what it opens is added at the end, and what it
  -- closes is the latest under its key.
  pub openings-opens : (xs : List X) (e : X) (k : K) → opened e ≡ Some k → openings same opened closed (xs ++ e ∷ []) ≡ openings same opened closed xs
      ++ record { place = length xs; element = e; key = k } ∷ []
  openings-opens xs e k is =
      let place : 0 + length xs ≡ length xs = omega arith in
      openings_is same opened closed (xs ++ e ∷ [])
      ∙ openings_kept 0 xs e (keys.apart e k is)
      ∙ (λ i. sym (openings_is same opened closed xs) i ++ openings_from same opened closed (place i) (e ∷ []))
      ∙ ap (λ o. openings same opened closed xs ++ cons_option (opening_before same opened closed (length xs) e [] o) []) is

  pub openings-closes : (xs : List X) (e : X) (k : K) → closed e ≡ Some k → openings same opened closed (xs ++ e ∷ []) ≡ remove_last (λ o. same k o.key) (openings same opened closed xs)
  openings-closes xs e k is =
      openings_is same opened closed (xs ++ e ∷ []) ∙ openings_closed 0 xs e k is ∙ ap (remove_last (λ o. same k o.key)) (sym (openings_is same opened closed xs))

  pub openings-neither : (xs : List X) (e : X) → opened e ≡ None → closed e ≡ None → openings same opened closed (xs ++ e ∷ []) ≡ openings same opened closed xs
  openings-neither xs e not_opened not_closed =
      openings_is same opened closed (xs ++ e ∷ [])
      ∙ openings_kept 0 xs e not_closed
      ∙ ap (λ o. openings_from same opened closed 0 xs ++ cons_option (opening_before same opened closed (0 + length xs) e [] o) []) not_opened
      ∙ append-nil (openings_from same opened closed 0 xs)
      ∙ sym (openings_is same opened closed xs)
