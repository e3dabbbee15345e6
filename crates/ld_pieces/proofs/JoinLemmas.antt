-- The traces of two pieces of a stream, one behind the other.
use Rattle.std.proofs.Common.{◌≡◌, ◌+◌, ◌<◌, ◌≤◌, ◌⊎◌, inl, inr, ◌∙◌, ◌++◌, ◌∷◌, [], ℕ, zero, suc, List, Bool, true, false, cond, Option, None, Some, length, map, take, drop, count_by, refl, sym, ap, subst, arith, append_assoc, ⊎_elim, eqb, get_or, slice_get}
use Rattle.std.proofs.lemmas.List.{get_or-drop}
use Rattle.std.proofs.lemmas.List.Sums.{sum_by-append}
use Rattle.std.proofs.Math.Numerals.{one-add}
use Rattle.std.proofs.lemmas.Bool.Decides.{eqb_tells}
use Rattle.std.proofs.lemmas.Option.{same_Some}
use Rattle.std.specs.Prelude.{◌==◌, is_some, unwrap_or, if◌then◌else◌}
use Rattle.std.specs.List.{concat, cons_option, onto_first, prefix_len, take_while}
use Rattle.ld_trace.specs.declared.source.StreamFault.{StreamFault}
use Rattle.ld_trace.specs.declared.source.StreamFault.TheVariants.{BadHeader, NoHeader, TooManyTraces}
use Rattle.ld_trace.specs.declared.source.TheConstants.{MOST_TRACES}
use Rattle.ld_trace.specs.Lines.{lines, says_nothing}
use Rattle.ld_trace.specs.Sources.{PlainSource, fault_at, fields_of, headers_before, is_header, is_other, label_of, line_faults, opened_at, sections, sources}
use Rattle.ld_trace.specs.Inner.Splitting.{given_from, is_lf}
use Rattle.ld_trace.proofs.SectionLemmas.{given_from-next, headers_before-next}
use Rattle.ld_trace.proofs.SplitLemmas.{drop-next}
use Rattle.ld_pieces.specs.Pieces.{EndsLine, IsCut, IsCutBehind, BeginsWithHeader, moved}

-- LINES

-- what stands onto the first of some lines stays there where others follow
onto-append : (b : ℕ) (xs ys : List (List ℕ)) → 0 < length xs → onto_first b (xs ++ ys) ≡ onto_first b xs ++ ys
onto-append b [] ys some = absurd (omega arith)
onto-append b (x ∷ xs) ys some = refl

onto-length : (b : ℕ) (xs : List (List ℕ)) → 0 < length xs → length (onto_first b xs) ≡ length xs
onto-length b [] some = absurd (omega arith)
onto-length b (x ∷ xs) some = refl

-- how many LFs some bytes have
abbrev lfs : List ℕ → ℕ
lfs [] = 0
lfs (b ∷ bytes) = cond (b == 10) 1 0 + lfs bytes

lfs-count : (bytes : List ℕ) → count_by is_lf bytes ≡ lfs bytes
lfs-count [] = refl
lfs-count (b ∷ bytes) = let rest = lfs-count bytes in let all = sum_by-append (λ x. cond (is_lf x) 1 0) (b ∷ []) bytes in omega (arith, rest, all)

-- bytes that end with an LF have as many lines as LFs
lines-many : (front : List ℕ) → (0 < length (lines (front ++ 10 ∷ []))) × (length (lines (front ++ 10 ∷ [])) ≡ lfs (front ++ 10 ∷ []))
lines-many [] = (omega arith, refl)
lines-many (b ∷ front) = by (b == 10) refl (lines-many front)
  where
    by : (lf : Bool) → (b == 10) ≡ lf → (0 < length (lines (front ++ 10 ∷ []))) × (length (lines (front ++ 10 ∷ [])) ≡ lfs (front ++ 10 ∷ []))
        → (0 < length (lines (b ∷ (front ++ 10 ∷ [])))) × (length (lines (b ∷ (front ++ 10 ∷ []))) ≡ lfs (b ∷ (front ++ 10 ∷ [])))
    by true is rest = rw is (omega (arith, rest.0), omega (arith, rest.1))
    by false is rest = let same = onto-length b (lines (front ++ 10 ∷ [])) rest.0 in rw is (omega (arith, rest.0, same), omega (arith, rest.1, same))

-- behind an LF lines begin anew
lines-behind : (front more : List ℕ) → lines ((front ++ 10 ∷ []) ++ more) ≡ lines (front ++ 10 ∷ []) ++ lines more
lines-behind [] more = refl
lines-behind (b ∷ front) more = by (b == 10) refl (lines-behind front more)
  where
    by : (lf : Bool) → (b == 10) ≡ lf → lines ((front ++ 10 ∷ []) ++ more) ≡ lines (front ++ 10 ∷ []) ++ lines more
        → lines (b ∷ ((front ++ 10 ∷ []) ++ more)) ≡ lines (b ∷ (front ++ 10 ∷ [])) ++ lines more
    by true is rest = rw is (ap (λ all. (b ∷ []) ∷ all) rest)
    by false is rest = rw is (ap (onto_first b) rest ∙ onto-append b (lines (front ++ 10 ∷ [])) (lines more) (lines-many front).0)

lines-append : (bytes more : List ℕ) → EndsLine bytes → lines (bytes ++ more) ≡ lines bytes ++ lines more
lines-append bytes more ends =
    subst (λ all. lines (all ++ more) ≡ lines all ++ lines more) (sym ends.1) (lines-behind ends.0 more)

lines-counted : (bytes : List ℕ) → EndsLine bytes → length (lines bytes) ≡ count_by is_lf bytes
lines-counted bytes ends =
    subst (λ all. length (lines all) ≡ lfs all) (sym ends.1) (lines-many ends.0).1 ∙ sym (lfs-count bytes)

-- bytes whose last one is an LF
pub ends-line : (bytes : List ℕ) (k : ℕ) → length bytes ≡ suc k → slice_get bytes k ≡ Some 10 → EndsLine bytes
ends-line [] k long last = absurd (omega arith)
ends-line (b ∷ []) zero long last = ([], ap (λ x. x ∷ []) (same_Some b 10 last))
ends-line (b ∷ c ∷ bytes) zero long last = absurd (omega arith)
ends-line (b ∷ bytes) (suc k) long last = let rest = ends-line bytes k (omega arith) last in (b ∷ rest.0, ap (λ all. b ∷ all) rest.1)

pub ends-behind : (bytes more : List ℕ) → EndsLine more → EndsLine (bytes ++ more)
ends-behind bytes more ends = (bytes ++ ends.0, ap (λ all. bytes ++ all) ends.1 ∙ sym (append_assoc bytes ends.0 (10 ∷ [])))

-- WHAT LINES GIVE, BY THE HEADERS AND THE LINES BEFORE THEM

abbrev headers : List (List ℕ) → ℕ
headers [] = 0
headers (x ∷ xs) = cond (is_header x) 1 0 + headers xs

-- what each line gives, by how many headers and lines stand before it, and what follows it
abbrev given : {Y : Type 0} → (ℕ → ℕ → List ℕ → List (List ℕ) → Option Y) → ℕ → ℕ → List (List ℕ) → List Y
given f h l [] = []
given f h l (x ∷ xs) = cons_option (f h l x xs) (given f (h + cond (is_header x) 1 0) (l + 1) xs)

-- the section that a line opens
abbrev section : ℕ → ℕ → List ℕ → List (List ℕ) → Option PlainSource
section h l x xs =
    if is_header x then Some (record { number = h; label = unwrap_or (label_of (fields_of x)) []; first_line = l + 2; bytes = concat (take_while is_other xs) }) else None

-- the fault of a line
abbrev fault : ℕ → ℕ → List ℕ → List (List ℕ) → Option StreamFault
fault h l x xs =
    if says_nothing (fields_of x) then None
    else if is_header x then
    (if is_some (label_of (fields_of x)) then (if h == MOST_TRACES then Some TooManyTraces else None)
    else Some (BadHeader (l + 1)))
    else (if h == 0 then Some (NoHeader (l + 1)) else None)

given-same : {Y : Type 0} (F : ℕ → List ℕ → Option Y) (f : ℕ → ℕ → List ℕ → List (List ℕ) → Option Y) (all : List (List ℕ))
    → ((k : ℕ) (x : List ℕ) (xs : List (List ℕ)) → drop k all ≡ x ∷ xs → F k x ≡ f (headers_before all k) k x xs)
    → (k : ℕ) (rest : List (List ℕ)) → drop k all ≡ rest → given_from F all k ≡ given f (headers_before all k) k rest
given-same F f all same k [] is = rw is refl
given-same F f all same k (x ∷ xs) is =
    given_from-next F all k x xs is
    ∙ ap (λ o. cons_option o (given_from F all (k + 1))) (same k x xs is)
    ∙ ap (cons_option (f (headers_before all k) k x xs))
    (given-same F f all same (k + 1) xs (drop-next all k x xs is)
    ∙ ap (λ h. given f h (k + 1) xs) (headers_before-next all k x xs is))

sections-given : (all : List (List ℕ)) → sections all ≡ given section 0 0 all
sections-given all = given-same (opened_at all) section all same 0 all refl
  where
    same : (k : ℕ) (x : List ℕ) (xs : List (List ℕ)) → drop k all ≡ x ∷ xs → opened_at all k x ≡ section (headers_before all k) k x xs
    same k x xs is =
        let here : get_or all k [] ≡ x = sym (get_or-drop k all 0 [] ∙ ap (λ n. get_or all n []) (omega arith)) ∙ ap (λ o. get_or o 0 []) is in
        rw (here, drop-next all k x xs is) refl

faults-given : (all : List (List ℕ)) → line_faults all ≡ given fault 0 0 all
faults-given all = given-same (fault_at all) fault all (λ k x xs is. refl) 0 all refl

onto-both : {Y : Type 0} (o : Option Y) (xs ys : List Y) → cons_option o (xs ++ ys) ≡ cons_option o xs ++ ys
onto-both None xs ys = refl
onto-both (Some y) xs ys = refl

-- what lines give that stand behind others
given-append : {Y : Type 0} (f : ℕ → ℕ → List ℕ → List (List ℕ) → Option Y) (more : List (List ℕ))
    → ((h l : ℕ) (x : List ℕ) (xs : List (List ℕ)) → f h l x (xs ++ more) ≡ f h l x xs)
    → (h l h' l' : ℕ) (xs : List (List ℕ)) → h' ≡ h + headers xs → l' ≡ l + length xs
    → given f h l (xs ++ more) ≡ given f h l xs ++ given f h' l' more
given-append f more free h l h' l' [] e e' = let a : h ≡ h' = omega (arith, e) in let b : l ≡ l' = omega (arith, e') in λ i. given f (a i) (b i) more
given-append f more free h l h' l' (x ∷ xs) e e' =
    let rest = given-append f more free (h + cond (is_header x) 1 0) (l + 1) h' l' xs (omega (arith, e)) (omega (arith, e')) in
    (λ i. cons_option (free h l x xs i) (rest i))
    ∙ onto-both (f h l x xs) (given f (h + cond (is_header x) 1 0) (l + 1) xs) (given f h' l' more)

one-more : (n : ℕ) (y : List ℕ) (ys : List (List ℕ)) → take (1 + n) (y ∷ ys) ≡ y ∷ take n ys
one-more n y ys = rw one-add refl

-- a header ends a section, so what follows it is of no account
section-free : (more : List (List ℕ)) → prefix_len is_other more ≡ 0 → (h l : ℕ) (x : List ℕ) (xs : List (List ℕ)) → section h l x (xs ++ more) ≡ section h l x xs
section-free more head h l x xs = ap (λ body. if is_header x then Some (record { number = h; label = unwrap_or (label_of (fields_of x)) []; first_line = l + 2; bytes = concat body }) else None) (same xs)
  where
    none : (ys : List (List ℕ)) → prefix_len is_other ys ≡ 0 → take (prefix_len is_other ys) ys ≡ []
    none [] is = refl
    none (y ∷ ys) is = ap (λ n. take n (y ∷ ys)) is

    same : (ys : List (List ℕ)) → take_while is_other (ys ++ more) ≡ take_while is_other ys
    same [] = none more head
    same (y ∷ ys) = by (is_other y) refl (same ys)
      where
        by : (other : Bool) → is_other y ≡ other → take_while is_other (ys ++ more) ≡ take_while is_other ys → take_while is_other (y ∷ (ys ++ more)) ≡ take_while is_other (y ∷ ys)
        by true is rest = rw is (one-more (prefix_len is_other (ys ++ more)) y (ys ++ more) ∙ ap (λ all. y ∷ all) rest ∙ sym (one-more (prefix_len is_other ys) y ys))
        by false is rest = rw is refl

-- the sections of lines that so many headers and lines come before
section-moved : (a b h l h' l' : ℕ) (xs : List (List ℕ)) → h' ≡ h + a → l' ≡ l + b → given section h' l' xs ≡ map (moved a b) (given section h l xs)
section-moved a b h l h' l' [] e e' = refl
section-moved a b h l h' l' (x ∷ xs) e e' = by (is_header x) refl (section-moved a b (h + 1) (l + 1) (h' + 1) (l' + 1) xs (omega (arith, e)) (omega (arith, e')))
    (section-moved a b (h + 0) (l + 1) (h' + 0) (l' + 1) xs (omega (arith, e)) (omega (arith, e')))
  where
    by : (head : Bool) → is_header x ≡ head → given section (h' + 1) (l' + 1) xs ≡ map (moved a b) (given section (h + 1) (l + 1) xs)
        → given section (h' + 0) (l' + 1) xs ≡ map (moved a b) (given section (h + 0) (l + 1) xs) → given section h' l' (x ∷ xs) ≡ map (moved a b) (given section h l (x ∷ xs))
    by true is rest other =
        let line : l' + 2 ≡ l + 2 + b = omega (arith, e') in
        rw is (λ i. record { number = e i; label = unwrap_or (label_of (fields_of x)) []; first_line = line i; bytes = concat (take_while is_other xs) } ∷ rest i)
    by false is one rest = rw is rest

sections-counted : (h l : ℕ) (xs : List (List ℕ)) → length (given section h l xs) ≡ headers xs
sections-counted h l [] = refl
sections-counted h l (x ∷ xs) = by (is_header x) refl (sections-counted (h + 1) (l + 1) xs) (sections-counted (h + 0) (l + 1) xs)
  where
    by : (head : Bool) → is_header x ≡ head → length (given section (h + 1) (l + 1) xs) ≡ headers xs → length (given section (h + 0) (l + 1) xs) ≡ headers xs
        → length (given section h l (x ∷ xs)) ≡ headers (x ∷ xs)
    by true is rest other = rw is (omega (arith, rest))
    by false is one rest = rw is (omega (arith, rest))

pub unequal : (a b : ℕ) → (a ≡ b → ⊥) → (a == b) ≡ false
unequal a b apart = ⊎_elim (λ (same : (eqb a b ≡ true) × (a ≡ b)). absurd (apart same.1)) (λ p. p.0) (eqb_tells a b)

-- a line without a fault has none behind more headers either, as long as there aren't too many
fault-moved : (h l h' l' : ℕ) (x : List ℕ) (xs : List (List ℕ)) → h ≤ h' → h' + headers (x ∷ xs) ≤ MOST_TRACES → fault h l x xs ≡ None → fault h' l' x xs ≡ None
fault-moved h l h' l' x xs more few none = by (says_nothing (fields_of x)) (is_header x) (is_some (label_of (fields_of x))) refl refl refl
  where
    some : (n : ℕ) → (if n == 0 then Some (NoHeader (l + 1)) else None) ≡ None → n ≡ 0 → ⊥
    some n fine zeroed = absurd (let is = rw zeroed at fine in cc)

    by : (silent head labelled : Bool) → says_nothing (fields_of x) ≡ silent → is_header x ≡ head → is_some (label_of (fields_of x)) ≡ labelled → fault h' l' x xs ≡ None
    by true head labelled says is has = rw says refl
    by false true true says is has =
        let room : h' + (1 + headers xs) ≤ MOST_TRACES = rw is at few in
        rw (says, is, has, unequal h' MOST_TRACES (λ same. omega (arith, room, same))) refl
    by false true false says is has = absurd (let told = rw (says, is, has) at none in cc)
    by false false labelled says is has =
        let told = rw (says, is) at none in
        let above : h ≡ 0 → ⊥ = some h told in
        rw (says, is, unequal h' 0 (λ zeroed. above (omega (arith, zeroed, more)))) refl

faults-moved : (h l h' l' : ℕ) (xs : List (List ℕ)) → h ≤ h' → h' + headers xs ≤ MOST_TRACES → given fault h l xs ≡ [] → given fault h' l' xs ≡ []
faults-moved h l h' l' [] more few none = refl
faults-moved h l h' l' (x ∷ xs) more few none =
    let both = neither (fault h l x xs) (given fault (h + cond (is_header x) 1 0) (l + 1) xs) none in
    let here = fault-moved h l h' l' x xs more few both.0 in
    let rest = faults-moved (h + cond (is_header x) 1 0) (l + 1) (h' + cond (is_header x) 1 0) (l' + 1) xs (omega (arith, more)) (omega (arith, few)) both.1 in
    λ i. cons_option (here i) (rest i)
  where
    neither : (o : Option StreamFault) (all : List StreamFault) → cons_option o all ≡ [] → (o ≡ None) × (all ≡ [])
    neither None all is = (refl, is)
    neither (Some y) all is = absurd (cc)

-- A PIECE BEHIND OTHERS

sections-behind : (xs ys : List (List ℕ)) → prefix_len is_other ys ≡ 0 → sections (xs ++ ys) ≡ sections xs ++ map (moved (length (sections xs)) (length xs)) (sections ys)
sections-behind xs ys head =
    sections-given (xs ++ ys)
    ∙ given-append section ys (section-free ys head) 0 0 (headers xs) (length xs) xs (omega arith) (omega arith)
    ∙ ap (λ all. given section 0 0 xs ++ all) (section-moved (headers xs) (length xs) 0 0 (headers xs) (length xs) ys (omega arith) (omega arith))
    ∙ (λ i. sym (sections-given xs) i ++ map (moved (counted i) (length xs)) (sym (sections-given ys) i))
  where
    counted : headers xs ≡ length (sections xs)
    counted = sym (ap length (sections-given xs) ∙ sections-counted 0 0 xs)

headers-counted : (xs : List (List ℕ)) → length (sections xs) ≡ headers xs
headers-counted xs = ap length (sections-given xs) ∙ sections-counted 0 0 xs

faults-behind : (xs ys : List (List ℕ)) → line_faults xs ≡ [] → line_faults ys ≡ [] → length (sections xs) + length (sections ys) ≤ MOST_TRACES → line_faults (xs ++ ys) ≡ []
faults-behind xs ys none none' few =
    let few' : headers xs + headers ys ≤ MOST_TRACES = omega (arith, few, headers-counted xs, headers-counted ys) in
    let first : given fault 0 0 xs ≡ [] = sym (faults-given xs) ∙ none in
    let second : given fault (headers xs) (length xs) ys ≡ [] = faults-moved 0 0 (headers xs) (length xs) ys (omega arith) few' (sym (faults-given ys) ∙ none') in
    faults-given (xs ++ ys)
    ∙ given-append fault ys (λ h l x all. refl) 0 0 (headers xs) (length xs) xs (omega arith) (omega arith)
    ∙ (λ i. first i ++ second i)

moved-none : (all : List PlainSource) → map (moved 0 0) all ≡ all
moved-none [] = refl
moved-none (s ∷ all) =
    let n : s.number + 0 ≡ s.number = omega arith in
    let l : s.first_line + 0 ≡ s.first_line = omega arith in
    λ i. record { number = n i; label = s.label; first_line = l i; bytes = s.bytes } ∷ moved-none all i

-- the first piece
pub cut-first : (piece : List ℕ) (more : List PlainSource) → IsCutBehind piece 0 0 more → IsCut piece more
cut-first piece more is = record { faultless = is.faultless; same = is.same ∙ moved-none (sources piece) }

-- a piece that begins with a header, behind an LF
pub cut-behind : (bytes piece : List ℕ) (told more : List PlainSource) → IsCut bytes told → IsCutBehind piece (length told) (count_by is_lf bytes) more
    → EndsLine bytes → BeginsWithHeader piece → IsCut (bytes ++ piece) (told ++ more)
cut-behind bytes piece told more before is ends head =
    let cut : lines (bytes ++ piece) ≡ lines bytes ++ lines piece = lines-append bytes piece ends in
    let few : length (sources bytes) + length (sources piece) ≤ MOST_TRACES = omega (arith, is.few, ap length before.same) in
    let counted : count_by is_lf bytes ≡ length (lines bytes) = sym (lines-counted bytes ends) in
    record {
      faultless = ap line_faults cut ∙ faults-behind (lines bytes) (lines piece) before.faultless is.faultless few;
      same = (λ i. before.same i ++ is.same i)
          ∙ ap (λ t. sources bytes ++ map (moved (length t) (count_by is_lf bytes)) (sources piece)) before.same
          ∙ ap (λ n. sources bytes ++ map (moved (length (sources bytes)) n) (sources piece)) counted
          ∙ sym (ap sections cut ∙ sections-behind (lines bytes) (lines piece) head);
    }

-- Where the first section's lines begin at line 2, its header is the first line.
lines-above : (h l : ℕ) (xs : List (List ℕ)) (s : PlainSource) (rest : List PlainSource) → given section h l xs ≡ s ∷ rest → l + 2 ≤ s.first_line
lines-above h l [] s rest is = absurd (cc)
lines-above h l (x ∷ xs) s rest is = by (is_header x) refl (lines-above (h + 0) (l + 1) xs s rest)
  where
    by : (head : Bool) → is_header x ≡ head → (given section (h + 0) (l + 1) xs ≡ s ∷ rest → l + 1 + 2 ≤ s.first_line) → l + 2 ≤ s.first_line
    by true head later = let first = ap (λ (all : List PlainSource). (get_or all 0 s).first_line) (rw head at is) in omega (arith, first)
    by false head later = let above = later (rw head at is) in omega (arith, above)

pub begins-with-header : (bytes : List ℕ) (s : PlainSource) (rest : List PlainSource) → sources bytes ≡ s ∷ rest → s.first_line ≡ 2 → BeginsWithHeader bytes
begins-with-header bytes s rest is first = by (lines bytes) (sym (sections-given (lines bytes)) ∙ is)
  where
    by : (all : List (List ℕ)) → given section 0 0 all ≡ s ∷ rest → prefix_len is_other all ≡ 0
    by [] none = refl
    by (x ∷ xs) told = header (is_header x) refl told
      where
        header : (head : Bool) → is_header x ≡ head → given section 0 0 (x ∷ xs) ≡ s ∷ rest → prefix_len is_other (x ∷ xs) ≡ 0
        header true head is' = rw head refl
        header false head is' = absurd (let later = lines-above 0 1 xs s rest (rw head at is') in omega (arith, later, first))

-- THE LINES OF THE LAST TRACE

-- each of these lines has one LF
abbrev AreEnded : List (List ℕ) → Type 0
AreEnded [] = Unit
AreEnded (x ∷ xs) = (lfs x ≡ 1) × AreEnded xs

lines-ended : (front : List ℕ) → AreEnded (lines (front ++ 10 ∷ []))
lines-ended [] = (refl, tt)
lines-ended (b ∷ front) = by (b == 10) refl (lines (front ++ 10 ∷ [])) (lines-many front).0 (lines-ended front)
  where
    by : (lf : Bool) → (b == 10) ≡ lf → (rest : List (List ℕ)) → 0 < length rest → AreEnded rest → AreEnded (if b == 10 then (b ∷ []) ∷ rest else onto_first b rest)
    by true is rest some ended = let one : cond {A = ℕ} (b == 10) 1 0 ≡ 1 = ap (λ t. cond {A = ℕ} t 1 0) is in rw is (omega (arith, one), ended)
    by false is [] some ended = absurd (omega arith)
    by false is (x ∷ xs) some ended = let none : cond {A = ℕ} (b == 10) 1 0 ≡ 0 = ap (λ t. cond {A = ℕ} t 1 0) is in rw is (omega (arith, none, ended.0), ended.1)

lfs-append : (xs ys : List ℕ) → lfs (xs ++ ys) ≡ lfs xs + lfs ys
lfs-append [] ys = omega arith
lfs-append (x ∷ xs) ys = omega (arith, lfs-append xs ys)

lfs-ended : (xs : List (List ℕ)) → AreEnded xs → lfs (concat xs) ≡ length xs
lfs-ended [] ended = refl
lfs-ended (x ∷ xs) ended = omega (arith, lfs-append x (concat xs), ended.0, lfs-ended xs ended.1)

-- lines that open no section are no headers
none-opened : (h l : ℕ) (xs : List (List ℕ)) → given section h l xs ≡ [] → take_while is_other xs ≡ xs
none-opened h l [] none = refl
none-opened h l (x ∷ xs) none = by (is_header x) refl (none-opened (h + 0) (l + 1) xs)
  where
    by : (head : Bool) → is_header x ≡ head → (given section (h + 0) (l + 1) xs ≡ [] → take_while is_other xs ≡ xs) → take_while is_other (x ∷ xs) ≡ x ∷ xs
    by true is later = absurd (let some = rw is at none in cc)
    by false is later = rw is (one-more (prefix_len is_other xs) x xs ∙ ap (λ all. x ∷ all) (later (rw is at none)))

-- the last section has all lines behind its header
last-lines : (h l : ℕ) (xs : List (List ℕ)) (front : List PlainSource) (s : PlainSource) → AreEnded xs → given section h l xs ≡ front ++ s ∷ []
    → (s.first_line + lfs s.bytes ≡ l + length xs + 1) × (2 ≤ s.first_line)
last-lines h l [] [] s ended is = absurd (cc)
last-lines h l [] (t ∷ front) s ended is = absurd (cc)
last-lines h l (x ∷ xs) front s ended is = by (is_header x) refl front is (λ n t. last-lines (h + n) (l + 1) xs t s ended.1)
  where
    by : (head : Bool) → is_header x ≡ head → (f : List PlainSource) → given section h l (x ∷ xs) ≡ f ++ s ∷ []
        → ((n : ℕ) (t : List PlainSource) → given section (h + n) (l + 1) xs ≡ t ++ s ∷ [] → (s.first_line + lfs s.bytes ≡ l + 1 + length xs + 1) × (2 ≤ s.first_line))
        → (s.first_line + lfs s.bytes ≡ l + length (x ∷ xs) + 1) × (2 ≤ s.first_line)
    by false head f told later = let rest = later 0 f (rw head at told) in (omega (arith, rest.0), rest.1)
    by true head (t ∷ f) told later = let rest = later 1 f (ap (drop 1) (rw head at told)) in (omega (arith, rest.0), rest.1)
    by true head [] told later =
        let both = rw head at told in
        let own : concat (take_while is_other xs) ≡ concat xs = ap concat (none-opened (h + 1) (l + 1) xs (ap (drop 1) both)) in
        let first : l + 2 ≡ s.first_line = ap (λ (all : List PlainSource). (get_or all 0 s).first_line) both in
        let bytes : concat xs ≡ s.bytes = sym own ∙ ap (λ (all : List PlainSource). (get_or all 0 s).bytes) both in
        (omega (arith, sym first, ap lfs bytes, lfs-ended xs ended.1), omega (arith, first))

-- so the lines before it and its own are all
pub last-counts : (bytes : List ℕ) (front : List PlainSource) (s : PlainSource) → (bytes ≡ []) ⊎ EndsLine bytes → sources bytes ≡ front ++ s ∷ []
    → (s.first_line + count_by is_lf s.bytes ≡ count_by is_lf bytes + 1) × (2 ≤ s.first_line)
last-counts bytes [] s (inl none) is = absurd (let gone = ap sources (sym none) ∙ is in cc)
last-counts bytes (t ∷ front) s (inl none) is = absurd (let gone = ap sources (sym none) ∙ is in cc)
last-counts bytes front s (inr ends) is =
    let ended = subst (λ all. AreEnded (lines all)) (sym ends.1) (lines-ended ends.0) in
    let all = last-lines 0 0 (lines bytes) front s ended (sym (sections-given (lines bytes)) ∙ is) in (
      omega (arith, all.0, lines-counted bytes ends, lfs-count s.bytes),
      all.1,
    )
