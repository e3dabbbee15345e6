-- What several writes or reads in turn do to known bytes.
use Rattle.std.proofs.Common.{◌≡◌, ℕ, ◌+◌, ◌-◌, ◌≤◌, ◌∙◌, List, ◌++◌, ap, append_assoc, length, take, drop, arith, Option, length-drop, length-append}
use Rattle.std.proofs.lemmas.List.{take_all}
use Rattle.std.proofs.Math.Seq.{take-add}
use Rattle.std.proofs.KnownBytes.{Appends-trans, Consumes-trans}
use Rattle.std.specs.Io.KnownBytes.{Appends, Consumes}
use Rattle.ld_io.specs.Inner.Reading.{Gains}
use Rattle.ld_io.specs.Transfer.{ConsumesAtMost}

rest_of_slice : (k : ℕ) (text : List ℕ) → take (length text - k) (drop k text) ≡ drop k text
rest_of_slice k text = take_all _ _ (omega (arith, length-drop k text))

-- the first k bytes of a text, and then n bytes of its rest
pub appends_more : (a b c : Option (List ℕ)) (k n : ℕ) (text : List ℕ) → Appends a b (take k text)
    → Appends b c (take n (take (length text - k) (drop k text))) → Appends a c (take (k + n) text)
appends_more a b c k n text before more =
    rw (take-add k n text) (Appends-trans a b c _ _ before (rw (rest_of_slice k text) at more))

-- some bytes, and then at most `room` more
pub consumes_at_most : (a b c : Option (List ℕ)) (before : List ℕ) (room most : ℕ)
    → Consumes a b before → ConsumesAtMost b c room → length before + room ≤ most → ConsumesAtMost a c most
consumes_at_most a b c before room most first more fits = (
  before ++ more.0,
  Consumes-trans a b c _ _ first more.1,
  omega (arith, length-append before more.0, more.2),
)

-- what two reads gained
pub gains-more : (a b c : List ℕ) (one two three : Option (List ℕ)) → Gains a b (Consumes one two) → Gains b c (Consumes two three) → Gains a c (Consumes one three)
gains-more a b c one two three first second = (
  first.0 ++ second.0,
  second.1 ∙ ap (λ all. all ++ second.0) first.1 ∙ append_assoc a first.0 second.0,
  Consumes-trans one two three first.0 second.0 first.2 second.2,
)

-- and how many bytes they are at most
pub gains-most : (a b : List ℕ) (one two three : Option (List ℕ)) (room most : ℕ) → Gains a b (Consumes one two) → ConsumesAtMost two three room → length b + room ≤ most
    → ConsumesAtMost one three (most - length a)
gains-most a b one two three room most first more within =
    let long = ap length first.1 in (
      first.0 ++ more.0,
      Consumes-trans one two three first.0 more.0 first.2 more.1,
      omega (arith, long, length-append a first.0, length-append first.0 more.0, more.2, within),
    )

pub at-most-more : (one two : Option (List ℕ)) (few most : ℕ) → ConsumesAtMost one two few → few ≤ most → ConsumesAtMost one two most
at-most-more one two few most read within = (read.0, read.1, omega (arith, read.2, within))
