-- Faults and sections of lines, a line or some lines further on.
use Rattle.std.proofs.Common.{ℕ, zero, suc, ◌≡◌, ◌+◌, ◌<◌, ◌≤◌, ◌||◌, Bool, true, false, not, cond, List, [], ◌∷◌, ◌++◌, length, take, drop, refl}
use Rattle.std.proofs.Common.{sym, ◌∙◌, ap, arith, get_or, append_assoc, Option, None, Some, codes, ⊎_elim, eqb}
use Rattle.std.proofs.Math.Numerals.{one-add}
use Rattle.std.specs.Prelude.{is_some, unwrap_or, IsTrue, ◌==◌}
use Rattle.std.specs.List.{concat, prefix_len, take_while, cons_option}
use Rattle.std.proofs.lemmas.List.{drop-drop, get_or-drop, length-drop}
use Rattle.std.proofs.lemmas.List.Sums.{prefix_len_passes, prefix_len-le-length, sum_by-append}
use Rattle.std.proofs.lemmas.Bool.Decides.{eqb_tells}
use Rattle.std.proofs.lemmas.Slice.Eq.{bytes_eq-Decides}
use Rattle.ld_trace.specs.declared.source.TheConstants.{MOST_TRACES}
use Rattle.ld_trace.specs.Lines.{is_word, says_nothing}
use Rattle.ld_trace.specs.Sources.{PlainSource, begins_trace, fault_at, fields_of, headers_before, is_header, is_other, label_of, line_faults, opened_at, section_at, sections}
use Rattle.ld_trace.specs.Inner.Splitting.{given_from}
use Rattle.ld_trace.proofs.SplitLemmas.{take-next, drop-next}

-- one line further
pub given_from-next : {Y : Type 0} (f : ℕ → List ℕ → Option Y) (all : List (List ℕ)) (k : ℕ) (x : List ℕ) (others : List (List ℕ)) → drop k all ≡ x ∷
    others → given_from f all k ≡ cons_option (f k x) (given_from f all (k + 1))
given_from-next f all k x others is = rw (is, drop-next all k x others is) refl

drop-none : (all : List (List ℕ)) (k : ℕ) → drop k all ≡ [] → drop (k + 1) all ≡ []
drop-none all k is = sym (drop-drop 1 k all) ∙ ap (λ o. drop 1 o) is

-- m lines further, where they give nothing
pub given_from-skip : {Y : Type 0} (f : ℕ → List ℕ → Option Y) (all : List (List ℕ)) (k m : ℕ) →
    ((j : ℕ) (x : List ℕ) (others : List (List ℕ)) → j < m → drop (k + j) all ≡ x ∷ others → f (k + j) x ≡ None) → given_from f all k ≡ given_from f all (k + m)
given_from-skip f all k zero none = ap (given_from f all) (omega arith)
given_from-skip f all k (suc m) none = given_from-skip f all k m (λ j x others below is. none j x others (omega arith) is) ∙ by (drop (k + m) all) refl ∙ ap (given_from f all) (omega arith)
  where
    by : (rest : List (List ℕ)) → drop (k + m) all ≡ rest → given_from f all (k + m) ≡ given_from f all (k + m + 1)
    by [] is = rw (is, drop-none all (k + m) is) refl
    by (x ∷ others) is = given_from-next f all (k + m) x others is ∙ ap (λ o. cons_option o (given_from f all (k + m + 1))) (none m x others (omega arith) is)

get_or-front : (all : List (List ℕ)) (k : ℕ) (d : List ℕ) → get_or (drop k all) 0 d ≡ get_or all k d
get_or-front all k d = get_or-drop k all 0 d ∙ ap (λ n. get_or all n d) (omega arith)

-- a line before the next header
pub other-line : (all : List (List ℕ)) (k j : ℕ) (x : List ℕ) (others : List (List ℕ)) → j < prefix_len is_other (drop k all) → drop (k + j) all ≡ x ∷ others → is_header x ≡ false
other-line all k j x others below is = not-true (is_header x) (ap is_other (sym here) ∙ prefix_len_passes is_other (drop k all) j [] below)
  where
    here : get_or (drop k all) j [] ≡ x
    here = get_or-drop k all j [] ∙ (sym (get_or-front all (k + j) []) ∙ ap (λ o. get_or o 0 []) is)

    not-true : (b : Bool) → not b ≡ true → b ≡ false
    not-true true h = absurd (cc)
    not-true false h = refl

-- how many headers stand before the next line
pub headers_before-next : (all : List (List ℕ)) (k : ℕ) (x : List ℕ) (others : List (List ℕ)) → drop k all ≡ x ∷ others → headers_before all (k + 1) ≡ headers_before all k + cond (is_header x) 1 0
headers_before-next all k x others is = rw (take-next all k x others is) (omega (arith, sum_by-append (λ line. cond (is_header line) 1 0) (take k all) (x ∷ [])))

-- a header says something
pub header-says : (found : List (List ℕ)) → begins_trace found ≡ true → says_nothing found ≡ false
header-says [] header = absurd (cc)
header-says (first ∷ others) header = rw ((bytes_eq-Decides first (codes "trace")).0 header) refl

-- among lines that are no headers no header is counted
pub headers_before-skip : (all : List (List ℕ)) (k m : ℕ) → m ≤ prefix_len is_other (drop k all) → headers_before all (k + m) ≡ headers_before all k
headers_before-skip all k zero within = ap (headers_before all) (omega arith)
headers_before-skip all k (suc m) within = by (drop (k + m) all) refl (headers_before-skip all k m (omega arith))
  where
    by : (rest : List (List ℕ)) → drop (k + m) all ≡ rest → headers_before all (k + m) ≡ headers_before all k → headers_before all (k + suc m) ≡ headers_before all k
    by [] is before = absurd (omega (arith, ap length is, length-drop (k + m) all, length-drop k all, prefix_len-le-length is_other (drop k all)))
    by (x ∷ others) is before = ap (headers_before all) (omega arith) ∙ headers_before-next all (k + m) x others is ∙ rw (other-line all k m x others (omega arith) is) (omega (arith, before))

not-zero : (n : ℕ) → 0 < n → (n == 0) ≡ false
not-zero n some = ⊎_elim (λ (zeroed : (eqb n 0 ≡ true) × (n ≡ 0)). absurd (let is = zeroed.1 in omega arith)) (λ p. p.0) (eqb_tells n 0)

-- they open no section
pub sections-skip : (all : List (List ℕ)) (k m : ℕ) → m ≤ prefix_len is_other (drop k all) → given_from (opened_at all) all k ≡ given_from (opened_at all) all (k + m)
sections-skip all k m within = given_from-skip (opened_at all) all k m (λ j x others below is. rw (other-line all k j x others (omega arith) is) refl)

-- and behind a header they have no fault
pub faults-skip : (all : List (List ℕ)) (k m : ℕ) → m ≤ prefix_len is_other (drop k all) → 0 < headers_before all k → given_from (fault_at all) all k ≡ given_from (fault_at all) all (k + m)
faults-skip all k m within some = given_from-skip (fault_at all) all k m (λ j x others below is. no-fault (k + j) x
    (other-line all k j x others (omega arith) is) (headers_before-skip all k j (omega arith)))
  where
    no-fault : (i : ℕ) (x : List ℕ) → is_header x ≡ false → headers_before all i ≡ headers_before all k → fault_at all i x ≡ None
    no-fault i x other same = by (says_nothing (fields_of x)) refl
      where
        by : (test : Bool) → says_nothing (fields_of x) ≡ test → fault_at all i x ≡ None
        by true silent = rw silent refl
        by false says = rw (says, other, not-zero (headers_before all i) (omega (arith, same))) refl

not-most : (n : ℕ) → (n ≡ MOST_TRACES → ⊥) → (n == MOST_TRACES) ≡ false
not-most n few = ⊎_elim (λ (most : (eqb n MOST_TRACES ≡ true) × (n ≡ MOST_TRACES)). absurd (few most.1)) (λ p. p.0) (eqb_tells n MOST_TRACES)

-- A header at place k with m lines behind it before the next one: what holds a section further.
pub record Opens (all : List (List ℕ)) (k m : ℕ) (x : List ℕ) (others : List (List ℕ)) : Type 0 where
  pub is : drop k all ≡ x ∷ others
  pub header : is_header x ≡ true
  pub own : m ≡ prefix_len is_other others

-- the lines behind the header are those from the next place on
behind : (all : List (List ℕ)) (k m : ℕ) (x : List ℕ) (others : List (List ℕ)) → Opens all k m x others → m ≤ prefix_len is_other (drop (k + 1) all)
behind all k m x others opens = rw (drop-next all k x others opens.is) (omega (arith, opens.own))

-- one header more stands before what is left
pub headers-section : (all : List (List ℕ)) (k m : ℕ) (x : List ℕ) (others : List (List ℕ)) → Opens all k m x others → headers_before all (k + 1 + m) ≡ headers_before all k + 1
headers-section all k m x others opens = headers_before-skip all (k + 1) m (behind all k m x others opens) ∙ headers_before-next all k x others opens.is ∙ rw opens.header refl

-- what is left begins at the place behind, and with a header if there is one
pub left-section : (all : List (List ℕ)) (k m : ℕ) (x : List ℕ) (others : List (List ℕ)) → Opens all k m x others → drop m others ≡ drop (k + 1 + m) all
left-section all k m x others opens = ap (drop m) (sym (drop-next all k x others opens.is)) ∙ drop-drop m (k + 1) all

-- neither the header nor the lines behind it have a fault
pub faults-section : (all : List (List ℕ)) (k m number : ℕ) (x : List ℕ) (others : List (List ℕ)) → Opens all k m x others → headers_before all k ≡
    number → (number ≡ MOST_TRACES → ⊥) → is_some (label_of (fields_of x)) ≡ true → line_faults all ≡ given_from (fault_at all) all k → line_faults all ≡ given_from (fault_at all) all (k + 1 + m)
faults-section all k m number x others opens counted few labelled before =
    let none : fault_at all k x ≡ None = rw (header-says (fields_of x) opens.header, opens.header, labelled, counted, not-most number few) refl in
    before ∙ given_from-next (fault_at all) all k x others opens.is ∙ ap (λ o. cons_option o (given_from (fault_at all) all (k + 1))) none ∙
    faults-skip all (k + 1) m (behind all k m x others opens) (omega (arith, rw opens.header at (headers_before-next all k x others opens.is)))

-- the sections told, with the one that opens here
pub sections-section : (all : List (List ℕ)) (k m : ℕ) (x : List ℕ) (others : List (List ℕ)) (told : List PlainSource) (source : PlainSource) → Opens
    all k m x others → source ≡ section_at all k → told ++ given_from (opened_at all) all k ≡ sections all → (told ++ source ∷ []) ++ given_from (opened_at all) all (k + 1 + m) ≡ sections all
sections-section all k m x others told source opens is before =
    let opened : opened_at all k x ≡ Some source = rw (opens.header, is) refl in
    let next = given_from-next (opened_at all) all k x others opens.is ∙ ap (λ o. cons_option o (given_from (opened_at all) all (k + 1))) opened in
    append_assoc told (source ∷ []) (given_from (opened_at all) all (k + 1 + m)) ∙ ap (λ o. told ++ (source ∷ o))
    (sym (sections-skip all (k + 1) m (behind all k m x others opens))) ∙ ap (λ o. told ++ o) (sym next) ∙ before

-- the section that opens here, field by field
pub section-is : (all : List (List ℕ)) (k m number : ℕ) (x : List ℕ) (others : List (List ℕ)) (name bytes : List ℕ) → Opens all k m x others →
    headers_before all k ≡ number → label_of (fields_of x) ≡ Some name → bytes ≡ concat (take_while is_other others) →
    record { number = number; label = name; first_line = k + 2; bytes = bytes } ≡ section_at all k
section-is all k m number x others name bytes opens counted labelled own =
    let here : get_or all k [] ≡ x = sym (get_or-front all k []) ∙ ap (λ o. get_or o 0 []) opens.is in
    rw (here, labelled, counted, drop-next all k x others opens.is, own) refl

-- what begins with no line of a section begins with a header
pub header-first : (x : List ℕ) (others : List (List ℕ)) → prefix_len is_other (x ∷ others) ≡ 0 → is_header x ≡ true
header-first x others none = by (is_header x) refl
  where
    by : (test : Bool) → is_header x ≡ test → is_header x ≡ true
    by true is = is
    by false is = absurd (let some = rw (is, one-add) at none in cc)

-- both are false
pub neither : (a b : Bool) → (a || b) ≡ false → (a ≡ false) × (b ≡ false)
neither true b h = absurd (cc)
neither false b h = (refl, h)

-- the label of a header is a word
pub label-word : (found : List (List ℕ)) (name : List ℕ) → label_of found ≡ Some name → IsTrue (is_word name)
label-word [] name is = absurd (cc)
label-word (first ∷ []) name is = absurd (cc)
label-word (first ∷ label ∷ []) name is = by (is_word label) refl
  where
    by : (test : Bool) → is_word label ≡ test → IsTrue (is_word name)
    by false fails = absurd (let none = rw fails at is in cc)
    by true word = let same = ap (λ o. unwrap_or o label) (rw word at is) in rw (← same, word) refl
label-word (first ∷ label ∷ third ∷ others) name is = absurd (cc)
