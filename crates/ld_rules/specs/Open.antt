-- What is open of a list whose elements open and close something under keys. A place is a position
-- in the list, from 0. `same` tells whether two keys are the same; `opened` and `closed` give the
-- key under which an element opens or closes, if it does.
use Rattle.std.specs.Prelude.{ℕ, ◌+◌, ◌-◌, Bool, false, nat_le, List, length, take}
use Rattle.std.specs.Prelude.{drop, count_by, filter_map, Option, Some, None, if◌then◌else◌}
use Rattle.std.specs.List.{enumerate_from, list_all, range_with_len}

-- the test of what is there, and false where nothing is
abbrev pub is_some_and : {K : Type 0} → (K → Bool) → Option K → Bool
is_some_and test None = false
is_some_and test (Some key) = test key

-- how many of the elements have this key, where `key_of` gives an element's key
abbrev pub count_of : {X K : Type 0} → (K → K → Bool) → (X → Option K) → K → List X → ℕ
count_of same key_of key xs = count_by (λ x. is_some_and (same key) (key_of x)) xs

-- (i, q]: the elements at the places after i up to q
abbrev pub after_to : {X : Type 0} → List X → ℕ → ℕ → List X
after_to xs i q = take (q - i) (drop (i + 1) xs)

-- the places after i, to the end of the list
abbrev pub places_after : {X : Type 0} → List X → ℕ → List ℕ
places_after xs i = range_with_len (i + 1) (length xs - (i + 1))

-- something that is open: the place and the element that opened it, and its key
pub record Opening (X K : Type 0) : Type 0 where
  pub place : ℕ
  pub element : X
  pub key : K

module _ {X K : Type 0} (same : K → K → Bool) (opened closed : X → Option K) where
  -- what opened at place i under this key is open at the end of the list: for each place q after i,
  -- no more closes under the key in (i, q] than opens there
  --
  -- For example, with one key, `open`, `open`, `close`: the first is open, since in (0, 1] and in (0, 2]
  -- one opens and none or one closes. The second isn't: in (1, 2] one closes and none opens. A second
  -- `close` would close the first.
  abbrev pub is_open : List X → ℕ → K → Bool
  is_open xs i key =
      list_all (λ q. nat_le (count_of same closed key (after_to xs i q))
      (count_of same opened key (after_to xs i q)))
      (places_after xs i)

  -- what the element x at place i opened, where it is open at the end of the list
  abbrev pub opening_at : List X → ℕ → X → Option K → Option (Opening X K)
  opening_at xs i x None = None
  opening_at xs i x (Some key) =
      if is_open xs i key then Some (record { place = i; element = x; key = key }) else None

  -- what is open at the end of the list, in order of place
  abbrev pub openings : List X → List (Opening X K)
  openings xs = filter_map (λ p. opening_at xs p.0 p.1 (opened p.1)) (enumerate_from 0 xs)
