-- Usage bits of numbered classes, read by the names of the classes: distinct names make equal names equal
-- numbers, so a bit is new by the number of its class where it is new by its name.
use Rattle.std.proofs.Common.{◌≡◌, ◌<◌, ◌++◌, ◌∷◌, [], ◌||◌, ◌==◌, List, ℕ, Bool, true, false, Some, All, length, map, fold, reverse, slice_index_or, refl, ap, sym, ◌∙◌, if◌then◌else◌}
use Rattle.std.proofs.lemmas.Bool.Decides.{Decides-and, Decides-eqb, Decides-like, same_from_decides}
use Rattle.std.proofs.lemmas.List.{map-append}
use Rattle.std.proofs.lemmas.List.Elements.{All-nil, All-cons, All-head, All-tail, All-append, All-map, All-weaker}
use Rattle.std.specs.Bool.{Decides}
use Rattle.std.specs.List.{list_any}
use Rattle.std.proofs.lemmas.Simd.{map-map}
use Rattle.ld_class.specs.Names.{AreDistinct, IsNameAt, PlainClass, no_class, with_name}
use Rattle.ld_trace.specs.declared.event.State.{State}
use Rattle.ld_trace.specs.declared.event.State.TheVariants.{Hard, Soft}
use Rattle.ld_tables.specs.declared.uses.UsageFact.{UsageFact}
use Rattle.ld_tables.specs.declared.interrupts.Interrupts.{Interrupts}
use Rattle.ld_rules.specs.Dependency.{Seen}
use Rattle.ld_facts.specs.Named.{named_use}
use Rattle.ld_rules.specs.Held.{Acquisition}
use Rattle.ld_tables.specs.Inner.Interrupts.{enabled_now, states_of}
use Rattle.ld_rules.specs.Usage.{Bit, Use, bit_of, usage_of, uses_in}
use Rattle.ld_rules.specs.Usage.Bit.{In, On}
use Rattle.ld_rules.specs.Inner.Scanned.{same_use_seen, with_new}
use Rattle.ld_facts.specs.Named.{IsUse}
use Rattle.ld_tables.specs.Inner.Uses.{fact, in_facts, on_facts, same_fact, with_use}
use Rattle.ld_facts.proofs.NamedLemmas.{name-more, number-more}
use Rattle.ld_rules.proofs.UsageLemmas.{Decides-same_use, at_line, bit_of-usage, on_use}

-- usage bits of which the names are told apart, and one more
module _ (names : List PlainClass) (distinct : AreDistinct names) where
  same_named : (a b : UsageFact) → IsUse names a → IsUse names b → same_use_seen (named_use names a) (named_use names b) ≡ same_fact a b
  same_named a b in_a in_b = same_from_decides (same_use_seen (named_use names a) (named_use names b)) (same_fact a b) by_names by_numbers
    where
      by_names : Decides (same_use_seen (named_use names a) (named_use names b)) ((named_use names a).what ≡ (named_use names b).what)
      by_names = Decides-same_use (named_use names a).what (named_use names b).what

      by_numbers : Decides (same_fact a b) ((named_use names a).what ≡ (named_use names b).what)
      by_numbers = Decides-like (same_fact a b)
          (λ h. λ i. record { class = slice_index_or names (h.0 i) no_class; bit = bit_of (record { 0 = h.1 i }) })
          (λ h. (
            distinct a.class b.class (slice_index_or names b.class no_class) (in_a.0, ap (λ u. u.class) h) (in_b.0, refl),
            ap (λ u. u.0) (in_a.1 ∙ ap (λ u. usage_of u.bit) h ∙ sym in_b.1),
          ))
          (Decides-and (a.class == b.class) (a.bit.0 == b.bit.0) (Decides-eqb a.class b.class) (Decides-eqb a.bit.0 b.bit.0))

  any_named : (facts : List UsageFact) (one : UsageFact) → All (IsUse names) facts → IsUse names one → list_any (same_use_seen (named_use names one))
      (map (named_use names) facts) ≡ list_any (same_fact one) facts
  any_named [] one within here = refl
  any_named (x ∷ xs) one within here =
      let first = same_named one x here (All-head (IsUse names) x xs within) in
      let rest = any_named xs one (All-tail (IsUse names) x xs within) here in
      (λ i. first i || rest i)

  with_use-named : (facts : List UsageFact) (one : UsageFact) → All (IsUse names) facts → IsUse names one → map (named_use names)
      (with_use facts one) ≡ with_new same_use_seen (map (named_use names) facts) (named_use names one)
  with_use-named facts one within here =
      map-append (named_use names) facts (if list_any (same_fact one) facts then [] else one ∷ [])
      ∙ ap (λ zs. map (named_use names) facts ++ zs) (by (list_any (same_fact one) facts))
      ∙ ap (λ (b : Bool). map (named_use names) facts ++ (if b then [] else named_use names one ∷ [])) (sym (any_named facts one within here))
    where
      by : (b : Bool) → map (named_use names) (if b then [] else one ∷ []) ≡ (if b then [] else named_use names one ∷ [])
      by true = refl
      by false = refl

within-with_use : (names : List PlainClass) (facts : List UsageFact) (one : UsageFact) → All (IsUse names) facts → IsUse names one → All (IsUse names) (with_use facts one)
within-with_use names facts one within here = All-append (IsUse names) facts (if list_any (same_fact one) facts then [] else one ∷ []) within (by (list_any (same_fact one) facts))
  where
    by : (b : Bool) → All (IsUse names) (if b then [] else one ∷ [])
    by true = All-nil (IsUse names)
    by false = All-cons (IsUse names) one [] here (All-nil (IsUse names))

-- more usage bits, told in turn
pub uses-named : (names : List PlainClass) → AreDistinct names → (facts more : List UsageFact) → All (IsUse names) facts → All (IsUse names) more → map
    (named_use names) (fold with_use facts more) ≡ fold (with_new same_use_seen) (map (named_use names) facts) (map (named_use names) more)
uses-named names distinct facts [] within inside = refl
uses-named names distinct facts (x ∷ xs) within inside =
    let here = All-head (IsUse names) x xs inside in
    uses-named names distinct (with_use facts x) xs (within-with_use names facts x within here) (All-tail (IsUse names) x xs inside)
    ∙ ap (λ zs. fold (with_new same_use_seen) zs (map (named_use names) xs)) (with_use-named names distinct facts x within here)

pub uses-within : (names : List PlainClass) (facts more : List UsageFact) → All (IsUse names) facts → All (IsUse names) more → All (IsUse names) (fold with_use facts more)
uses-within names facts [] within inside = within
uses-within names facts (x ∷ xs) within inside =
    uses-within names (with_use facts x) xs (within-with_use names facts x within (All-head (IsUse names) x xs inside)) (All-tail (IsUse names) x xs inside)

-- names with one more among them: the usage bits stand where they stood
pub named_use-more : (names : List PlainClass) (name : PlainClass) (facts : List UsageFact) → All (IsUse names) facts → map (named_use (with_name names name)) facts ≡ map (named_use names) facts
named_use-more names name [] within = refl
named_use-more names name (x ∷ xs) within =
    let here = name-more names name x.class (All-head (IsUse names) x xs within).0 in
    let rest = named_use-more names name xs (All-tail (IsUse names) x xs within) in
    (λ i. record { what = record { class = here i; bit = bit_of x.bit }; line = x.line } ∷ rest i)

pub within_use-more : (names : List PlainClass) (name : PlainClass) (facts : List UsageFact) → All (IsUse names) facts → All (IsUse (with_name names name)) facts
within_use-more names name facts within = All-weaker (IsUse names) (IsUse (with_name names name)) (λ x here. (number-more names name x.class here.0, here.1)) facts within

fact-within : (names : List PlainClass) (bit : Bit) (line class : ℕ) → class < length names → IsUse names (fact bit line class)
fact-within names bit line class low = (low, ap usage_of (sym (bit_of-usage bit)))

-- The bits of a class that is waited for.

pub in_facts-named : (names : List PlainClass) (interrupts : Interrupts) (line class : ℕ) (name : PlainClass) → IsNameAt names class name → map
    (named_use names) (in_facts interrupts line class) ≡ map (at_line line) (uses_in (reverse (states_of interrupts)) (Some name))
in_facts-named names interrupts line class name at = by (reverse (states_of interrupts))
  where
    by : (states : List State) → map (named_use names) (map (λ state. fact (In state) line class) states) ≡ map (at_line line) (uses_in states (Some name))
    by [] = refl
    by (state ∷ states) =
        let bit = bit_of-usage (In state) in
        let rest = by states in
        (λ i. record { what = record { class = at.1 i; bit = bit i }; line = line } ∷ rest i)

pub in_facts-within : (names : List PlainClass) (interrupts : Interrupts) (line class : ℕ) → class < length names → All (IsUse names) (in_facts interrupts line class)
in_facts-within names interrupts line class low = by (reverse (states_of interrupts))
  where
    by : (states : List State) → All (IsUse names) (map (λ state. fact (In state) line class) states)
    by [] = All-nil (IsUse names)
    by (state ∷ states) = All-cons (IsUse names) (fact (In state) line class) (map (λ s. fact (In s) line class) states) (fact-within names (In state) line class low) (by states)

-- The bits of classes that are held.

-- the use of a class that is held where the state is enabled, with its line
abbrev seen_on : State → ℕ → PlainClass → Seen Use
seen_on state line name = at_line line (record { class = name; bit = On state })

on_named : (names : List PlainClass) (state : State) (line : ℕ) (classes : List ℕ) (those : List Acquisition) → map (λ c. slice_index_or names c no_class) classes ≡
    map (λ one. one.class) those → map (named_use names) (map (fact (On state) line) classes) ≡ map (at_line line) (map (on_use state) those)
on_named names state line classes those same =
    map-map (named_use names) (fact (On state) line) classes
    ∙ ap (λ bit. map (λ c. at_line line (record { class = slice_index_or names c no_class; bit = bit })) classes) (bit_of-usage (On state))
    ∙ sym (map-map (seen_on state line) (λ c. slice_index_or names c no_class) classes)
    ∙ ap (map (seen_on state line)) same
    ∙ map-map (seen_on state line) (λ one. one.class) those
    ∙ sym (map-map (at_line line) (on_use state) those)

pub on_facts-named : (names : List PlainClass) (interrupts : Interrupts) (line : ℕ) (classes : List ℕ) (those : List Acquisition) → map
    (λ c. slice_index_or names c no_class) classes ≡ map (λ one. one.class) those → map (named_use names) (on_facts interrupts line classes) ≡ map
    (at_line line) (map (on_use Hard) (if enabled_now Hard interrupts then those else []) ++ map (on_use Soft) (if enabled_now Soft interrupts then those else []))
on_facts-named names interrupts line classes those same =
    map-append (named_use names) (map (fact (On Hard) line) (if enabled_now Hard interrupts then classes else [])) (map (fact (On Soft) line) (if enabled_now Soft interrupts then classes else []))
    ∙ (λ i. by Hard (enabled_now Hard interrupts) i ++ by Soft (enabled_now Soft interrupts) i)
    ∙ sym (map-append (at_line line) (map (on_use Hard) (if enabled_now Hard interrupts then those else [])) (map (on_use Soft) (if enabled_now Soft interrupts then those else [])))
  where
    by : (state : State) (b : Bool) → map (named_use names) (map (fact (On state) line) (if b then classes else [])) ≡ map (at_line line) (map (on_use state) (if b then those else []))
    by state true = on_named names state line classes those same
    by state false = refl

pub on_facts-within : (names : List PlainClass) (interrupts : Interrupts) (line : ℕ) (classes : List ℕ) → All (λ c. c < length names) classes → All (IsUse names) (on_facts interrupts line classes)
on_facts-within names interrupts line classes inside =
    All-append (IsUse names) (map (fact (On Hard) line) (if enabled_now Hard interrupts then classes else [])) (map (fact (On Soft) line) (if enabled_now Soft interrupts then classes else []))
    (by Hard (enabled_now Hard interrupts)) (by Soft (enabled_now Soft interrupts))
  where
    by : (state : State) (b : Bool) → All (IsUse names) (map (fact (On state) line) (if b then classes else []))
    by state true = All-map (IsUse names) (fact (On state) line) classes (All-weaker (λ c. c < length names)
        (λ c. IsUse names (fact (On state) line c)) (λ c low. fact-within names (On state) line c low) classes inside)
    by state false = All-nil (IsUse names)
