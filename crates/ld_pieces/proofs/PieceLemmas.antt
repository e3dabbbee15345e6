-- One element more of what loops over sources, pieces and reads have done.
use Rattle.std.proofs.Common.{◌≡◌, ◌+◌, ◌-◌, ◌<◌, ◌≤◌, ◌⊎◌, inl, inr, ◌∙◌, ◌++◌, ◌∷◌, [], ℕ, List, Option, Some, map, take, drop, set, suc, zero, length, get_or, refl, sym, ap, arith, append_assoc, append-nil, length-append, slice_get, Result, Ok, Err, IfSome, Bool, true, false, nat_lt, count_by, subst, if◌then◌else◌}
use Rattle.std.proofs.lemmas.Bool.{true≢false}
use Rattle.std.proofs.lemmas.List.{drop-drop, drop-set-lt, get_or-drop, length-map, map-append, take-append-le, take_all, take_more}
use Rattle.std.proofs.lemmas.Option.{same_Some}
use Rattle.std.proofs.KnownBytes.{Consumes-nil}
use Rattle.std.specs.Io.KnownBytes.{Consumes}
use Rattle.std.specs.Prelude.{◌==◌}
use Rattle.std.specs.List.{concat}
use Rattle.ld_io.specs.Inner.Reading.{Gains}
use Rattle.ld_trace.specs.declared.source.Source.{Source}
use Rattle.ld_trace.specs.declared.source.StreamFault.{StreamFault}
use Rattle.ld_trace.specs.declared.source.StreamFault.TheVariants.{TooLong}
use Rattle.ld_trace.specs.declared.source.TheConstants.{LONGEST_STREAM, MOST_TRACES}
use Rattle.ld_trace.specs.Lines.{lines}
use Rattle.ld_trace.specs.Inner.Splitting.{is_lf}
use Rattle.ld_trace.specs.Sources.{PlainSource, line_faults, plain, sources, stream_fault}
use Rattle.ld_pieces.specs.Pieces.{BeginsWithHeader, EndsLine, IsCut, IsCutBehind, moved}
use Rattle.ld_pieces.proofs.JoinLemmas.{begins-with-header, cut-behind, cut-first, last-counts, unequal}

-- sources that were moved, one by one
pub moved-more : (traces before : ℕ) (found old new : List Source) (i : ℕ) (d x : Source) → i < length found
    → map plain old ≡ map (moved traces before) (map plain (take i found)) → plain x ≡ moved traces before (plain (get_or found i d)) → new ≡ old ++ x ∷ []
    → map plain new ≡ map (moved traces before) (map plain (take (i + 1) found))
moved-more traces before found old new i d x within so_far same is =
    ap (map plain) is
    ∙ map-append plain old (x ∷ [])
    ∙ (λ j. so_far j ++ same j ∷ [])
    ∙ sym (map-append (moved traces before) (map plain (take i found)) (plain (get_or found i d) ∷ []))
    ∙ ap (map (moved traces before)) (sym (map-append plain (take i found) (get_or found i d ∷ [])))
    ∙ ap (λ all. map (moved traces before) (map plain all)) (sym (take_more found i d within))

pub moved-whole : (traces before : ℕ) (old now : List Source) (i : ℕ) → length old ≤ i → length now ≡ length old
    → map plain (take i now) ≡ map (moved traces before) (map plain (take i old)) → map plain now ≡ map (moved traces before) (map plain old)
moved-whole traces before old now i all same so_far =
    ap (map plain) (sym (take_all i now (omega (arith, all, same)))) ∙ so_far ∙ ap (λ these. map (moved traces before) (map plain these)) (take_all i old all)

-- a list that was moved as a slice
pub written : (old now : List Source) (n : ℕ) → n ≡ length old → length now ≡ length old → take n (now ++ drop (length now) old) ≡ now
written old now n whole same =
    take-append-le n now (drop (length now) old) (omega (arith, whole, same)) ∙ take_all n now (omega (arith, whole, same))

-- those that aren't moved yet
pub same-at : (xs ys : List Source) (i : ℕ) (d : Source) → drop i xs ≡ drop i ys → get_or xs i d ≡ get_or ys i d
same-at xs ys i d is = sym (front xs) ∙ ap (λ all. get_or all 0 d) is ∙ front ys
  where
    front : (zs : List Source) → get_or (drop i zs) 0 d ≡ get_or zs i d
    front zs = get_or-drop i zs 0 d ∙ ap (λ n. get_or zs n d) (omega arith)

pub same-behind : (xs ys : List Source) (i : ℕ) (x : Source) → drop i xs ≡ drop i ys → drop (i + 1) (set xs i x) ≡ drop (i + 1) ys
same-behind xs ys i x is =
    drop-set-lt (i + 1) xs i x (omega arith) ∙ sym (further xs) ∙ ap (drop 1) is ∙ further ys
  where
    further : (zs : List Source) → drop 1 (drop i zs) ≡ drop (i + 1) zs
    further zs = drop-drop 1 i zs ∙ ap (λ n. drop n zs) (omega arith)

-- the lines of all that has come, by the last trace
pub counted-last : (bytes : List ℕ) (told : List Source) (s : Source) → IsCut bytes (map plain told) → (bytes ≡ []) ⊎ EndsLine bytes
    → slice_get told (length told - 1) ≡ Some s → (s.first_line + count_by is_lf s.bytes.now ≡ count_by is_lf bytes + 1) × (2 ≤ s.first_line)
counted-last bytes [] s cut whole is = absurd (cc)
counted-last bytes (t ∷ ts) s cut whole is =
    let k : length (t ∷ ts) - 1 ≡ length ts = omega arith in
    let found = last-of (t ∷ ts) (length ts) s (omega arith) (ap (slice_get (t ∷ ts)) (sym k) ∙ is) in
    by found.0 found.1
  where
    by : (front : List Source) → t ∷ ts ≡ front ++ s ∷ [] → (s.first_line + count_by is_lf s.bytes.now ≡ count_by is_lf bytes + 1) × (2 ≤ s.first_line)
    by front same = last-counts bytes (map plain front) (plain s) whole (sym cut.same ∙ ap (map plain) same ∙ map-append plain front (s ∷ []))

    last-of : {X : Type 0} (xs : List X) (n : ℕ) (x : X) → length xs ≡ suc n → slice_get xs n ≡ Some x → (front : List X) × (xs ≡ front ++ x ∷ [])
    last-of [] n x long is = absurd (omega arith)
    last-of (y ∷ []) zero x long is = ([], ap (λ z. z ∷ []) (same_Some y x is))
    last-of (y ∷ z ∷ zs) zero x long is = absurd (omega arith)
    last-of (y ∷ xs) (suc n) x long is = let rest = last-of xs n x (omega arith) is in (y ∷ rest.0, ap (λ all. y ∷ all) rest.1)

-- the first source stands behind the first line
pub header-first : (bytes : List ℕ) (found : List Source) (s : Source) → map plain found ≡ sources bytes → slice_get found 0 ≡ Some s → s.first_line ≡ 2 → BeginsWithHeader bytes
header-first bytes [] s same is first = absurd (cc)
header-first bytes (x ∷ found) s same is first = begins-with-header bytes (plain x) (map plain found) (sym same) (ap (λ (t : Source). t.first_line) (same_Some x s is) ∙ first)

-- a piece that was cut has no fault
pub no-fault : {T : Type 0} (bytes : List ℕ) (r : Result T StreamFault) (x : T) → IfSome (stream_fault bytes) (λ f. r ≡ Err f) → r ≡ Ok x → line_faults (lines bytes) ≡ []
no-fault bytes r x told fine = by (nat_lt LONGEST_STREAM (length bytes)) (line_faults (lines bytes)) told
  where
    by : (long : Bool) (all : List StreamFault) → IfSome (if long then Some TooLong else slice_get all 0) (λ f. r ≡ Err f) → all ≡ []
    by true all is = absurd (cc)
    by false [] is = refl
    by false (f ∷ all) is = absurd (cc)

-- a piece behind those that have come
pub cut-next : (bytes piece : List ℕ) (told more : List PlainSource) (empty : Bool) → IsCut bytes told → IsCutBehind piece (length told) (count_by is_lf bytes) more
    → (empty ≡ true → bytes ≡ []) → (empty ≡ false → EndsLine bytes) → (empty ≡ false → BeginsWithHeader piece) → IsCut (bytes ++ piece) (told ++ more)
cut-next bytes piece told more false before is none ends head = cut-behind bytes piece told more before is (ends refl) (head refl)
cut-next bytes piece told more true before is none ends head =
    let gone = none refl in
    let untold : told ≡ [] = before.same ∙ ap sources gone in
    let first : IsCutBehind piece 0 0 more = subst (λ n. IsCutBehind piece n 0 more) (ap length untold) (subst (λ all. IsCutBehind piece (length told) (count_by is_lf all) more) gone is) in
    subst (λ all. IsCut (all ++ piece) (told ++ more)) (sym gone) (subst (λ all. IsCut piece (all ++ more)) (sym untold) (cut-first piece more first))

-- the pieces and their traces after one more
pub added : (bytes piece now : List ℕ) (told more all : List Source) (traces before len : ℕ) → IsCut bytes (map plain told) → length told ≤ MOST_TRACES
    → IsCutBehind piece traces before (map plain more) → traces ≡ length told → before ≡ count_by is_lf bytes → len ≡ length bytes → (bytes ≡ []) ⊎ EndsLine bytes
    → ((len == 0) ≡ false → BeginsWithHeader piece) → now ≡ bytes ++ piece → all ≡ told ++ more → (length all ≤ MOST_TRACES) × IsCut now (map plain all)
added bytes piece now told more all traces before len is few behind number count long whole head came grew = (
  omega (arith, ap length grew, length-append told more, behind.few, number, ap length behind.same, length-map more plain, length-map (sources piece) (moved traces before)),
  subst (λ (b : List ℕ). IsCut b (map plain all)) (sym came)
      (subst (λ ts. IsCut (bytes ++ piece) ts) (sym (ap (map plain) grew ∙ map-append plain told more))
      (cut-next bytes piece (map plain told) (map plain more) (len == 0) is
      (subst (λ n. IsCutBehind piece n (count_by is_lf bytes) (map plain more)) (number ∙ sym (length-map told plain)) (subst (λ n. IsCutBehind piece traces n (map plain more)) count behind))
      (λ zeroed. none bytes long zeroed) (λ some. ends whole some) head)),
)
  where
    none : (all : List ℕ) → len ≡ length all → (len == 0) ≡ true → all ≡ []
    none [] is zeroed = refl
    none (x ∷ xs) is zeroed = absurd (true≢false (sym zeroed ∙ unequal len 0 (λ e. omega (arith, e, is))))

    ends : (bytes ≡ []) ⊎ EndsLine bytes → (len == 0) ≡ false → EndsLine bytes
    ends (inl gone) some = absurd (true≢false (rw (long ∙ ap length gone) at some))
    ends (inr told) some = told

-- pieces one behind the other
pub concat-append : (xs ys : List (List ℕ)) → concat (xs ++ ys) ≡ concat xs ++ concat ys
concat-append [] ys = refl
concat-append (x ∷ xs) ys = ap (λ all. x ++ all) (concat-append xs ys) ∙ sym (append_assoc x (concat xs) (concat ys))

pub concat-push : {X : Type 0} (f : X → List ℕ) (xs : List X) (x : X) → concat (map f (xs ++ x ∷ [])) ≡ concat (map f xs) ++ f x
concat-push f xs x =
    ap concat (map-append f xs (x ∷ [])) ∙ concat-append (map f xs) (f x ∷ []) ∙ ap (λ all. concat (map f xs) ++ all) (append-nil (f x))

pub concat-more : {X : Type 0} (f : X → List ℕ) (xs : List X) (i : ℕ) (d : X) (now : List ℕ) → i < length xs → now ≡ concat (map f (take i xs)) → now ++ f (get_or xs i d) ≡ concat (map f (take (i + 1) xs))
concat-more f xs i d now within is =
    ap (λ all. all ++ f (get_or xs i d)) is ∙ sym (concat-push f (take i xs) (get_or xs i d)) ∙ ap (λ all. concat (map f all)) (sym (take_more xs i d within))

-- what two reads gained
pub gains-none : (all : List ℕ) (left : Option (List ℕ)) → Gains all all (Consumes left left)
gains-none all left = ([], sym (append-nil all), Consumes-nil left)

pub gains-whole : (a b piece ahead : List ℕ) (one two : Option (List ℕ)) → Gains a b (Consumes one two) → piece ≡ b → ahead ≡ [] → Gains a (piece ++ ahead) (Consumes one two)
gains-whole a b piece ahead one two gained is none = (gained.0, (λ i. is i ++ none i) ∙ append-nil b ∙ gained.1, gained.2)
