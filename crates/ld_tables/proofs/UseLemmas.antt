-- Usage bits as a list and as sets.
use Rattle.std.proofs.Common.{◌≡◌, ◌≢◌, ◌<◌, ◌≤◌, ◌-◌, ◌^◌, ◌∷◌, [], ◌++◌, ◌⊎◌, inl, inr, ◌&&◌, ◌||◌, ◌==◌, not, ℕ, List, Bool, true, false, true≢false}
use Rattle.std.proofs.Common.{length, get_or, set, take, bit_and, bit_or, refl, ap, sym, subst, ◌∙◌, arith, eqb, fold, map, reverse, if◌then◌else◌, Option, Some, None}
use Rattle.std.proofs.lemmas.Bool.{and_from, and_right, eq-eqb, eqb-true, ne_eqb, or_right, cases_eq, cases_lt}
use Rattle.std.proofs.lemmas.List.{get_or_push, get_or_append_left, get_or_past, get_or-set_same, get_or-set_other, length_push, take-append-le, take_all}
use Rattle.std.proofs.lemmas.List.Folds.{list_any-append, list_any_at}
use Rattle.std.proofs.lemmas.Nat.{and_assoc, and_or_apart, and_or_self}
use Rattle.std.specs.Int.Bits.{and_zero_r}
use Rattle.std.specs.List.{list_all, list_any}
use Rattle.ld_class.specs.declared.usage.Usage.{Usage}
use Rattle.ld_class.specs.Usage.{has_bit, no_bits}
use Rattle.ld_trace.specs.declared.event.State.{State}
use Rattle.ld_trace.specs.declared.event.State.TheVariants.{Hard, Soft}
use Rattle.ld_rules.specs.Flags.{same_state}
use Rattle.ld_rules.specs.Usage.{Bit, IsBit, bit_of, usage_of}
use Rattle.ld_rules.specs.Usage.Bit.{In, On}
use Rattle.ld_rules.proofs.PlaceLemmas.{all_known}
use Rattle.ld_rules.proofs.UsageLemmas.{no_bit}
use Rattle.ld_tables.specs.declared.uses.UsageFact.{UsageFact}
use Rattle.ld_tables.specs.declared.interrupts.Interrupts.{Interrupts}
use Rattle.ld_tables.specs.declared.interrupts.OpenFrame.{OpenFrame}
use Rattle.ld_tables.specs.Inner.Interrupts.{enabled_now, states_of, with_frame}
use Rattle.ld_tables.specs.Inner.Uses.{AreNoted, fact, in_facts, on_facts, same_fact, with_use}

-- two sets of one bit each, by their numbers: the same
record AreSame (x y : ℕ) : Type 0 where
  pub same : y ≡ x
  pub gone : bit_and (2 ^ 8 - 1 - x) y ≡ 0
  pub some : (0 == y) ≡ false

-- or apart
record AreApart (x y : ℕ) : Type 0 where
  pub none : bit_and x y ≡ 0
  pub kept : bit_and (2 ^ 8 - 1 - x) y ≡ y
  pub differ : (y == x) ≡ false

meet : (x y : Bit) → AreSame (usage_of x).0 (usage_of y).0 ⊎ AreApart (usage_of x).0 (usage_of y).0
meet (In Hard) (In Hard) = inl (record { same = refl; gone = refl; some = refl })
meet (In Hard) (In Soft) = inr (record { none = refl; kept = refl; differ = refl })
meet (In Hard) (On Hard) = inr (record { none = refl; kept = refl; differ = refl })
meet (In Hard) (On Soft) = inr (record { none = refl; kept = refl; differ = refl })
meet (In Soft) (In Hard) = inr (record { none = refl; kept = refl; differ = refl })
meet (In Soft) (In Soft) = inl (record { same = refl; gone = refl; some = refl })
meet (In Soft) (On Hard) = inr (record { none = refl; kept = refl; differ = refl })
meet (In Soft) (On Soft) = inr (record { none = refl; kept = refl; differ = refl })
meet (On Hard) (In Hard) = inr (record { none = refl; kept = refl; differ = refl })
meet (On Hard) (In Soft) = inr (record { none = refl; kept = refl; differ = refl })
meet (On Hard) (On Hard) = inl (record { same = refl; gone = refl; some = refl })
meet (On Hard) (On Soft) = inr (record { none = refl; kept = refl; differ = refl })
meet (On Soft) (In Hard) = inr (record { none = refl; kept = refl; differ = refl })
meet (On Soft) (In Soft) = inr (record { none = refl; kept = refl; differ = refl })
meet (On Soft) (On Hard) = inr (record { none = refl; kept = refl; differ = refl })
meet (On Soft) (On Soft) = inl (record { same = refl; gone = refl; some = refl })

or_false : (b : Bool) → (b || false) ≡ b
or_false true = refl
or_false false = refl

and_true : (b : Bool) → (b && true) ≡ b
and_true true = refl
and_true false = refl

-- what a set has after a bit was put into it
has_added : (a x y : ℕ) → AreSame x y ⊎ AreApart x y → (bit_and (bit_or a x) y == y) ≡ ((bit_and a y == y) || (y == x))
has_added a x y (inl are) = eq-eqb (bit_and (bit_or a x) y) y (ap (λ n. bit_and (bit_or a n) y) (sym are.same) ∙ and_or_self y a)
    ∙ sym (or_right (bit_and a y == y) (y == x) (eq-eqb y x are.same))
has_added a x y (inr are) = ap (λ n. n == y) (and_or_apart y a x are.none) ∙ sym (ap (λ t. (bit_and a y == y) || t) are.differ ∙ or_false (bit_and a y == y))

-- and after one was taken from it
has_gone : (a x y : ℕ) → AreSame x y ⊎ AreApart x y → (bit_and (bit_and a (2 ^ 8 - 1 - x)) y == y) ≡ ((bit_and a y == y) && not (y == x))
has_gone a x y (inl are) = ap (λ n. n == y) (and_assoc y a (2 ^ 8 - 1 - x) ∙ ap (bit_and a) are.gone ∙ and_zero_r a) ∙ are.some
    ∙ sym (ap (λ t. (bit_and a y == y) && not t) (eq-eqb y x are.same) ∙ and_right (bit_and a y == y) false refl)
has_gone a x y (inr are) = ap (λ n. n == y) (and_assoc y a (2 ^ 8 - 1 - x) ∙ ap (bit_and a) are.kept)
    ∙ sym (ap (λ t. (bit_and a y == y) && not t) are.differ ∙ and_true (bit_and a y == y))

-- one row and others, of which none is the same
settle : (l t : Bool) → (t ≡ true → l ≡ false) → ((l || (t || false)) && not t) ≡ l
settle true true h = absurd (true≢false (h refl))
settle true false h = refl
settle false true h = refl
settle false false h = refl

-- a row is told of its own class alone
other_class : (f : UsageFact) (class : ℕ) (bit : Bit) → class ≢ f.class → same_fact (fact bit 0 class) f ≡ false
other_class f class bit other = ap (λ t. t && ((usage_of bit).0 == f.bit.0)) (ne_eqb class f.class other)

own_class : (f : UsageFact) (class : ℕ) (bit : Bit) → class ≡ f.class → same_fact (fact bit 0 class) f ≡ ((usage_of bit).0 == f.bit.0)
own_class f class bit own = ap (λ t. t && ((usage_of bit).0 == f.bit.0)) (eq-eqb class f.class own)

same_as : (f : UsageFact) → IsBit f.bit → (rows : List UsageFact) → list_any (same_fact (fact (bit_of f.bit) 0 f.class)) rows ≡ list_any (same_fact f) rows
same_as f is rows = ap (λ (u : Usage). list_any (λ (g : UsageFact). f.class == g.class && u.0 == g.bit.0) rows) (sym is)

same_self : (f : UsageFact) → same_fact f f ≡ true
same_self f = and_from (eqb f.class f.class) (eqb f.bit.0 f.bit.0) (eq-eqb f.class f.class refl) (eq-eqb f.bit.0 f.bit.0 refl)

-- more sets, which are empty
pub noted_reached : (facts : List UsageFact) (known more : List Usage) → AreNoted facts known → ((k : ℕ) → get_or more k no_bits ≡ get_or known k no_bits) → AreNoted facts more
noted_reached facts known more are kept = record {
  noted = λ class bit. ap (λ (u : Usage). has_bit u (usage_of bit)) (kept class) ∙ are.noted class bit;
  bits = are.bits;
  once = are.once;
}

module _ (facts : List UsageFact) (known : List Usage) (f : UsageFact) where
  before : (i : ℕ) (d : UsageFact) → i < length facts → get_or (facts ++ f ∷ []) i d ≡ get_or facts i d
  before i d below = get_or_append_left facts (f ∷ []) d i below

  last : (i : ℕ) (d : UsageFact) → length facts ≡ i → get_or (facts ++ f ∷ []) i d ≡ f
  last i d end = get_or_push facts f d i end

  front : (i : ℕ) → i ≤ length facts → take i (facts ++ f ∷ []) ≡ take i facts
  front i below = take-append-le i facts (f ∷ []) below

  whole : (i : ℕ) → length facts ≡ i → take i (facts ++ f ∷ []) ≡ facts
  whole i end = front i (omega arith) ∙ take_all i facts (omega arith)

  -- a row comes, whose bit isn't noted
  module _ (are : AreNoted facts known) (is : IsBit f.bit) (within : f.class < length known) (new : Usage) (absent : has_bit (get_or known f.class no_bits) f.bit ≡ false)
      (added : new.0 ≡ bit_or (get_or known f.class no_bits).0 f.bit.0) where
    noted_added : (class : ℕ) (bit : Bit) → (class ≡ f.class) ⊎ (class ≡ f.class → ⊥) → has_bit (get_or (set known f.class new) class no_bits)
        (usage_of bit) ≡ list_any (same_fact (fact bit 0 class)) (facts ++ f ∷ [])
    noted_added class bit (inl own) =
        ap (λ (u : Usage). has_bit u (usage_of bit)) (ap (λ c. get_or (set known f.class new) c no_bits) own ∙ get_or-set_same known f.class new no_bits within)
        ∙ ap (λ n. bit_and n (usage_of bit).0 == (usage_of bit).0) added
        ∙ has_added (get_or known f.class no_bits).0 f.bit.0 (usage_of bit).0
        (subst (λ (u : Usage). AreSame u.0 (usage_of bit).0 ⊎ AreApart u.0 (usage_of bit).0) (sym is) (meet (bit_of f.bit) bit))
        ∙ (λ i. (ap (λ c. has_bit (get_or known c no_bits) (usage_of bit)) (sym own) ∙ are.noted class bit) i || (sym (own_class f class bit own) ∙ sym (or_false (same_fact (fact bit 0 class) f))) i)
        ∙ sym (list_any-append (same_fact (fact bit 0 class)) facts (f ∷ []))
    noted_added class bit (inr other) =
        ap (λ (u : Usage). has_bit u (usage_of bit)) (get_or-set_other known f.class class new no_bits other)
        ∙ are.noted class bit
        ∙ sym (or_false (list_any (same_fact (fact bit 0 class)) facts))
        ∙ ap (λ t. list_any (same_fact (fact bit 0 class)) facts || (t || false)) (sym (other_class f class bit other))
        ∙ sym (list_any-append (same_fact (fact bit 0 class)) facts (f ∷ []))

    absent_row : list_any (same_fact f) facts ≡ false
    absent_row = sym (same_as f is facts) ∙ sym (are.noted f.class (bit_of f.bit)) ∙ ap (has_bit (get_or known f.class no_bits)) (sym is) ∙ absent

    bits_added : (i : ℕ) (d : UsageFact) → (i < length facts) ⊎ (length facts ≤ i) → i < length (facts ++ f ∷ []) → IsBit (get_or (facts ++ f ∷ []) i d).bit
    bits_added i d (inl below) _ = subst (λ (g : UsageFact). IsBit g.bit) (sym (before i d below)) (are.bits i d below)
    bits_added i d (inr past) inside = subst (λ (g : UsageFact). IsBit g.bit) (sym (last i d (omega (arith, length_push facts f)))) is

    once_added : (i : ℕ) (d : UsageFact) → (i < length facts) ⊎ (length facts ≤ i) → i < length (facts ++ f ∷ []) → list_any
        (same_fact (get_or (facts ++ f ∷ []) i d)) (take i (facts ++ f ∷ [])) ≡ false
    once_added i d (inl below) _ = (λ k. list_any (same_fact (before i d below k)) (front i (omega arith) k)) ∙ are.once i d below
    once_added i d (inr past) inside =
        let end : length facts ≡ i = omega (arith, length_push facts f) in
        (λ k. list_any (same_fact (last i d end k)) (whole i end k)) ∙ absent_row

    pub noted_push : AreNoted (facts ++ f ∷ []) (set known f.class new)
    noted_push = record {
      noted = λ class bit. noted_added class bit (cases_eq class f.class);
      bits = λ i d inside. bits_added i d (cases_lt i (length facts)) inside;
      once = λ i d inside. once_added i d (cases_lt i (length facts)) inside;
    }

  -- the last row goes
  module _ (are : AreNoted (facts ++ f ∷ []) known) where
    end : length facts < length (facts ++ f ∷ [])
    end = omega (arith, length_push facts f)

    is_bit : IsBit f.bit
    is_bit = subst (λ (g : UsageFact). IsBit g.bit) (last (length facts) f refl) (are.bits (length facts) f end)

    gone_row : list_any (same_fact f) facts ≡ false
    gone_row = sym (λ k. list_any (same_fact (last (length facts) f refl k)) (whole (length facts) refl k)) ∙ are.once (length facts) f end

    -- its class has a set
    pub known_last : f.class < length known
    known_last = by (cases_lt f.class (length known))
      where
        there : list_any (same_fact f) (facts ++ f ∷ []) ≡ true
        there = list_any_at (same_fact f) (facts ++ f ∷ []) (length facts) f end (ap (same_fact f) (last (length facts) f refl) ∙ same_self f)

        by : (f.class < length known) ⊎ (length known ≤ f.class) → f.class < length known
        by (inl within) = within
        by (inr past) = absurd (true≢false (sym there ∙ sym (same_as f is_bit (facts ++ f ∷ [])) ∙ sym (are.noted f.class (bit_of f.bit))
            ∙ ap (λ (u : Usage). has_bit u (usage_of (bit_of f.bit))) (get_or_past known f.class no_bits past) ∙ no_bit (bit_of f.bit)))

    module _ (new : Usage) (taken : new.0 ≡ bit_and (get_or known f.class no_bits).0 (2 ^ 8 - 1 - f.bit.0)) where
      noted_gone : (class : ℕ) (bit : Bit) → (class ≡ f.class) ⊎ (class ≡ f.class → ⊥) → has_bit (get_or (set known f.class new) class no_bits)
          (usage_of bit) ≡ list_any (same_fact (fact bit 0 class)) facts
      noted_gone class bit (inl own) =
          ap (λ (u : Usage). has_bit u (usage_of bit)) (ap (λ c. get_or (set known f.class new) c no_bits) own ∙ get_or-set_same known f.class new no_bits known_last)
          ∙ ap (λ n. bit_and n (usage_of bit).0 == (usage_of bit).0) taken
          ∙ has_gone (get_or known f.class no_bits).0 f.bit.0 (usage_of bit).0
          (subst (λ (u : Usage). AreSame u.0 (usage_of bit).0 ⊎ AreApart u.0 (usage_of bit).0) (sym is_bit) (meet (bit_of f.bit) bit))
          ∙ (λ i. (ap (λ c. has_bit (get_or known c no_bits) (usage_of bit)) (sym own) ∙ are.noted class bit ∙ list_any-append (same_fact (fact bit 0 class)) facts (f ∷ [])) i
          && not (sym (own_class f class bit own) i))
          ∙ settle (list_any (same_fact (fact bit 0 class)) facts) (same_fact (fact bit 0 class) f) alone
        where
          alone : same_fact (fact bit 0 class) f ≡ true → list_any (same_fact (fact bit 0 class)) facts ≡ false
          alone same =
              let equal : (usage_of bit).0 ≡ f.bit.0 = eqb-true (usage_of bit).0 f.bit.0 (sym (own_class f class bit own) ∙ same) in
              (λ i. list_any (λ (g : UsageFact). own i == g.class && equal i == g.bit.0) facts) ∙ gone_row
      noted_gone class bit (inr other) =
          ap (λ (u : Usage). has_bit u (usage_of bit)) (get_or-set_other known f.class class new no_bits other)
          ∙ are.noted class bit
          ∙ list_any-append (same_fact (fact bit 0 class)) facts (f ∷ [])
          ∙ ap (λ t. list_any (same_fact (fact bit 0 class)) facts || (t || false)) (other_class f class bit other)
          ∙ or_false (list_any (same_fact (fact bit 0 class)) facts)

      pub noted_cut : AreNoted facts (set known f.class new)
      noted_cut = record {
        noted = λ class bit. noted_gone class bit (cases_eq class f.class);
        bits = λ i d inside. subst (λ (g : UsageFact). IsBit g.bit) (before i d inside) (are.bits i d (omega (arith, end)));
        once = λ i d inside. sym (λ k. list_any (same_fact (before i d inside k)) (front i (omega arith) k)) ∙ are.once i d (omega (arith, end));
      }

-- Where all bits of a set are there, what shows no others adds nothing.
module _ (facts : List UsageFact) (class : ℕ) where
  abbrev is_there : Bit → Type 0
  is_there bit = list_any (same_fact (fact bit 0 class)) facts ≡ true

  pub each-there : (known : List Usage) → AreNoted facts known → (bits : Usage)
      → has_bit (get_or known class no_bits) bits ≡ true → (bit : Bit) → has_bit bits (usage_of bit) ≡ true → is_there bit
  each-there known are bits all bit one =
      let k = (get_or known class no_bits).0 in
      let b = (usage_of bit).0 in
      let outer : bit_and k bits.0 ≡ bits.0 = eqb-true (bit_and k bits.0) bits.0 all in
      let inner : bit_and bits.0 b ≡ b = eqb-true (bit_and bits.0 b) b one in
      let both : bit_and k b ≡ b = ap (bit_and k) (sym inner) ∙ sym (and_assoc b k bits.0) ∙ ap (λ n. bit_and n b) outer ∙ inner in
      sym (are.noted class bit) ∙ eq-eqb (bit_and k b) b both

  module _ (line : ℕ) where
    abbrev AreAll : List State → Type 0
    AreAll states = list_all (λ one. list_any (same_fact one) facts) (map (λ state. fact (In state) line class) (reverse states)) ≡ true

    abbrev among : Option OpenFrame → Option OpenFrame → List State
    among hard soft = map (λ f. f.state) (with_frame Hard hard (with_frame Soft soft []))

    pub in-known : (interrupts : Interrupts)
        → ((state : State) → list_any (same_state state) (states_of interrupts) ≡ true → is_there (In state))
        → fold with_use facts (in_facts interrupts line class) ≡ facts
    in-known interrupts there = all_known same_fact facts (in_facts interrupts line class) (by interrupts.hard interrupts.soft refl refl)
      where
        opened : (hard soft : Option OpenFrame) → interrupts.hard ≡ hard → interrupts.soft ≡ soft → among hard soft ≡ states_of interrupts
        opened hard soft h s = λ i. among (sym h i) (sym s i)

        here : (hard soft : Option OpenFrame) → interrupts.hard ≡ hard → interrupts.soft ≡ soft → (state : State)
            → list_any (same_state state) (among hard soft) ≡ true → is_there (In state)
        here hard soft h s state is = there state (sym (ap (list_any (same_state state)) (opened hard soft h s)) ∙ is)

        by : (hard soft : Option OpenFrame) → interrupts.hard ≡ hard → interrupts.soft ≡ soft → AreAll (states_of interrupts)
        by None None h s = subst AreAll (opened None None h s) refl
        by (Some f) None h s = subst AreAll (opened (Some f) None h s) (ap (λ b. b && true) (here (Some f) None h s Hard refl))
        by None (Some g) h s = subst AreAll (opened None (Some g) h s) (ap (λ b. b && true) (here None (Some g) h s Soft refl))
        by (Some f) (Some g) h s = subst AreAll (opened (Some f) (Some g) h s)
            (λ i. here (Some f) (Some g) h s Soft refl i && (here (Some f) (Some g) h s Hard refl i && true))

    pub on-known : (interrupts : Interrupts) → ((state : State) → enabled_now state interrupts ≡ true → is_there (On state))
        → fold with_use facts (on_facts interrupts line (class ∷ [])) ≡ facts
    on-known interrupts there =
        all_known same_fact facts (on_facts interrupts line (class ∷ [])) (by (enabled_now Hard interrupts) (enabled_now Soft interrupts) refl refl)
      where
        by : (hard soft : Bool) → enabled_now Hard interrupts ≡ hard → enabled_now Soft interrupts ≡ soft
            → list_all (λ one. list_any (same_fact one) facts)
            (map (fact (On Hard) line) (if hard then class ∷ [] else []) ++ map (fact (On Soft) line) (if soft then class ∷ [] else [])) ≡ true
        by false false h s = refl
        by true false h s = ap (λ b. b && true) (there Hard h)
        by false true h s = ap (λ b. b && true) (there Soft s)
        by true true h s = λ i. there Hard h i && (there Soft s i && true)
