-- What is told of bits, as rows are noted.
use Rattle.std.proofs.Common.{◌≡◌, ◌≢◌, ◌⊎◌, inl, inr, ◌-◌, ◌<◌, ◌≤◌, ◌||◌, ◌++◌, ◌∷◌, ◌∙◌, [], List, ℕ, Bool, true, false, None, All, Contains}
use Rattle.std.proofs.Common.{length, set, replicate, get_or, refl, sym, ap, subst, arith, length-append}
use Rattle.std.proofs.lemmas.Bool.{true≢false, cases_eq, cases_lt}
use Rattle.std.proofs.lemmas.List.{get_or-map, get_or-set_same, get_or-set_other, get_or_append_left, get_or-append_right, get_or-replicate, get_or_past}
use Rattle.std.proofs.lemmas.List.{length-map, length-replicate, length-set, map-set, map-append}
use Rattle.std.proofs.lemmas.List.Elements.{All-nil, All-push, Contains-append_left, Contains-append_right}
use Rattle.ld_class.specs.declared.usage.Usage.{Usage}
use Rattle.ld_class.specs.Usage.{either, has_bit, no_bits}
use Rattle.ld_class.proofs.UsageLemmas.{has_bit-either}
use Rattle.ld_trace.specs.declared.event.State.TheVariants.{Hard, Soft}
use Rattle.ld_rules.specs.Usage.{Bit, IsBit, bit_of, usage_of}
use Rattle.ld_rules.specs.Usage.Bit.{In, On}
use Rattle.ld_rules.proofs.UsageLemmas.{no_bit}
use Rattle.ld_union.specs.declared.delta.NewBit.{NewBit}
use Rattle.ld_union.specs.declared.usage.UsageRow.{UsageRow}
use Rattle.ld_union.specs.Inner.Bits.{HasBitAt, new_bit}
use Rattle.ld_union.specs.Inner.Delta.{IsNew, TellsBits}
use Rattle.ld_union.specs.Usage.{bits_of, row_of}

pub bit_within : (usage : List Usage) (c : ℕ) (bit : Bit) → HasBitAt usage c bit → c < length usage
bit_within usage c bit has = by (cases_lt c (length usage))
  where
    by : (c < length usage) ⊎ (length usage ≤ c) → c < length usage
    by (inl within) = within
    by (inr past) = absurd (true≢false (sym has ∙ ap (λ u. has_bit u (usage_of bit)) (get_or_past usage c no_bits past) ∙ no_bit bit))

pub row_within : (rows : List UsageRow) (c : ℕ) (bit : Bit) → HasBitAt (bits_of rows) c bit → c < length rows
row_within rows c bit has = subst (λ n. c < n) (length-map rows (λ (row : UsageRow). row.bits)) (bit_within (bits_of rows) c bit has)

-- what is told is one bit each, of a class that has a row
pub told_within : (before : List Usage) (rows : List UsageRow) (told : List NewBit) → TellsBits before (bits_of rows) told → All (λ (t : NewBit). t.class < length rows) told
told_within before rows told tells k d within = row_within rows (get_or told k d).class (bit_of (get_or told k d).bit) (tells.each k d within).now

-- whether two bits are the same
same_set : (a b : Bit) → (a ≡ b) ⊎ (has_bit (usage_of a) (usage_of b) ≡ false)
same_set (In Hard) (In Hard) = inl refl
same_set (In Hard) (In Soft) = inr refl
same_set (In Hard) (On Hard) = inr refl
same_set (In Hard) (On Soft) = inr refl
same_set (In Soft) (In Hard) = inr refl
same_set (In Soft) (In Soft) = inl refl
same_set (In Soft) (On Hard) = inr refl
same_set (In Soft) (On Soft) = inr refl
same_set (On Hard) (In Hard) = inr refl
same_set (On Hard) (In Soft) = inr refl
same_set (On Hard) (On Hard) = inl refl
same_set (On Hard) (On Soft) = inr refl
same_set (On Soft) (In Hard) = inr refl
same_set (On Soft) (In Soft) = inr refl
same_set (On Soft) (On Hard) = inr refl
same_set (On Soft) (On Soft) = inl refl

-- each bit is one digit
with_one : (usage more : Usage) (bit : Bit) → has_bit (either usage more) (usage_of bit) ≡ (has_bit usage (usage_of bit) || has_bit more (usage_of bit))
with_one usage more (In Hard) = has_bit-either usage more (usage_of (In Hard)) 0 refl
with_one usage more (On Hard) = has_bit-either usage more (usage_of (On Hard)) 1 refl
with_one usage more (In Soft) = has_bit-either usage more (usage_of (In Soft)) 2 refl
with_one usage more (On Soft) = has_bit-either usage more (usage_of (On Soft)) 3 refl

-- a set that has this bit too
has_one : (bit : Bit) → has_bit (usage_of bit) (usage_of bit) ≡ true
has_one (In Hard) = refl
has_one (In Soft) = refl
has_one (On Hard) = refl
has_one (On Soft) = refl

or_left : (a b : Bool) → a ≡ true → (a || b) ≡ true
or_left true b is = refl
or_left false b is = absurd (true≢false (sym is))

or_right : (a b : Bool) → b ≡ true → (a || b) ≡ true
or_right true b is = refl
or_right false b is = is

or_cases : (a b : Bool) → (a || b) ≡ true → (a ≡ true) ⊎ (b ≡ true)
or_cases true b is = inl refl
or_cases false b is = inr is

-- more classes without bits change nothing
module _ (rows : List UsageRow) (count : ℕ) where
  abbrev longer : List UsageRow
  longer = rows ++ replicate count (row_of (λ bit. None))

  still : (c : ℕ) (bit : Bit) → c < length rows → get_or (bits_of longer) c no_bits ≡ get_or (bits_of rows) c no_bits
  still c bit within =
      ap (λ all. get_or all c no_bits) (map-append (λ (row : UsageRow). row.bits) rows (replicate count (row_of (λ bit. None))))
      ∙ get_or_append_left (bits_of rows) (bits_of (replicate count (row_of (λ bit. None)))) no_bits c (subst (λ n. c < n) (sym (length-map rows (λ (row : UsageRow). row.bits))) within)

  pub tells-longer : TellsBits (bits_of rows) (bits_of longer) []
  tells-longer = record {
    kept = λ c bit has. ap (λ u. has_bit u (usage_of bit)) (still c bit (row_within rows c bit has)) ∙ has;
    each = All-nil (IsNew (bits_of rows) (bits_of longer));
    all = λ c bit has before. absurd (by c bit has before (cases_lt c (length rows)));
  }
    where
      by : (c : ℕ) (bit : Bit) → HasBitAt (bits_of longer) c bit → ¬ HasBitAt (bits_of rows) c bit → (c < length rows) ⊎ (length rows ≤ c) → ⊥
      by c bit has before (inl within) = before (ap (λ u. has_bit u (usage_of bit)) (sym (still c bit within)) ∙ has)
      by c bit has before (inr past) =
          let unused : UsageRow = row_of (λ bit. None) in
          let within : c < length longer = row_within longer c bit has in
          let at : get_or longer c unused ≡ unused =
          get_or-append_right rows (replicate count unused) (length rows) c unused refl past
          ∙ get_or-replicate count (c - length rows) unused unused (omega (arith, past, within, length-append rows (replicate count unused), length_spare)) in
          true≢false (sym has ∙ ap (λ u. has_bit u (usage_of bit)) (get_or-map (λ (row : UsageRow). row.bits) longer c unused no_bits within ∙ ap (λ (row : UsageRow). row.bits) at) ∙ no_bit bit)
        where
          length_spare : length (replicate count (row_of (λ bit. None))) ≡ count
          length_spare = length-replicate count (row_of (λ bit. None))

-- one row gets a bit
module _ (before : List Usage) (rows : List UsageRow) (told : List NewBit) (is : TellsBits before (bits_of rows) told)
    (c : ℕ) (d row : UsageRow) (within : c < length rows) (bit : Usage) (one : IsBit bit) (same : row.bits ≡ either (get_or rows c d).bits bit) where
  abbrev after : List Usage
  after = bits_of (set rows c row)

  here : get_or after c no_bits ≡ either (get_or rows c d).bits bit
  here =
      get_or-map (λ (r : UsageRow). r.bits) (set rows c row) c row no_bits (subst (λ n. c < n) (sym (length-set rows c row)) within)
      ∙ ap (λ (r : UsageRow). r.bits) (get_or-set_same rows c row row within)
      ∙ same

  was : get_or (bits_of rows) c no_bits ≡ (get_or rows c d).bits
  was = get_or-map (λ (r : UsageRow). r.bits) rows c d no_bits within

  elsewhere : (k : ℕ) → k ≢ c → get_or after k no_bits ≡ get_or (bits_of rows) k no_bits
  elsewhere k differs =
      ap (λ all. get_or all k no_bits) (map-set (λ (r : UsageRow). r.bits) rows c row)
      ∙ get_or-set_other (bits_of rows) c k row.bits no_bits differs

  stays : (k : ℕ) (b : Bit) → HasBitAt (bits_of rows) k b → HasBitAt after k b
  stays k b has = by (cases_eq k c)
    where
      by : (k ≡ c) ⊎ (k ≢ c) → HasBitAt after k b
      by (inl equal) =
          subst (λ m. HasBitAt after m b) (sym equal)
          (ap (λ u. has_bit u (usage_of b)) here ∙ with_one (get_or rows c d).bits bit b
          ∙ or_left (has_bit (get_or rows c d).bits (usage_of b)) (has_bit bit (usage_of b)) (ap (λ u. has_bit u (usage_of b)) (sym was) ∙ subst (λ m. HasBitAt (bits_of rows) m b) equal has))
      by (inr differs) = ap (λ u. has_bit u (usage_of b)) (elsewhere k differs) ∙ has

  -- now it has the bit
  has_now : HasBitAt after c (bit_of bit)
  has_now =
      ap (λ u. has_bit u (usage_of (bit_of bit))) here ∙ with_one (get_or rows c d).bits bit (bit_of bit)
      ∙ or_right (has_bit (get_or rows c d).bits (usage_of (bit_of bit))) (has_bit bit (usage_of (bit_of bit))) (ap (λ u. has_bit u (usage_of (bit_of bit))) one ∙ has_one (bit_of bit))

  -- and what else there is was there
  came : (k : ℕ) (b : Bit) → HasBitAt after k b → HasBitAt (bits_of rows) k b ⊎ ((k ≡ c) × (b ≡ bit_of bit))
  came k b has = by (cases_eq k c)
    where
      at_bit : HasBitAt after c b → k ≡ c → (has_bit (get_or rows c d).bits (usage_of b) ≡ true) ⊎ (has_bit bit (usage_of b) ≡ true)
          → (bit_of bit ≡ b) ⊎ (has_bit (usage_of (bit_of bit)) (usage_of b) ≡ false) → HasBitAt (bits_of rows) k b ⊎ ((k ≡ c) × (b ≡ bit_of bit))
      at_bit now equal (inl old) which = inl (subst (λ m. HasBitAt (bits_of rows) m b) (sym equal) (ap (λ u. has_bit u (usage_of b)) was ∙ old))
      at_bit now equal (inr this) (inl is_bit) = inr (equal, sym is_bit)
      at_bit now equal (inr this) (inr other) = absurd (true≢false (sym this ∙ ap (λ u. has_bit u (usage_of b)) one ∙ other))

      by : (k ≡ c) ⊎ (k ≢ c) → HasBitAt (bits_of rows) k b ⊎ ((k ≡ c) × (b ≡ bit_of bit))
      by (inr differs) = inl (ap (λ u. has_bit u (usage_of b)) (sym (elsewhere k differs)) ∙ has)
      by (inl equal) =
          let now : HasBitAt after c b = subst (λ m. HasBitAt after m b) equal has in
          at_bit now equal (or_cases (has_bit (get_or rows c d).bits (usage_of b)) (has_bit bit (usage_of b))
          (sym (with_one (get_or rows c d).bits bit b) ∙ ap (λ u. has_bit u (usage_of b)) (sym here) ∙ now))
          (same_set (bit_of bit) b)

  -- where the class had the bit, nothing is told
  pub tells-known : has_bit (get_or rows c d).bits bit ≡ true → TellsBits before after told
  tells-known known = record {
    kept = λ k b has. stays k b (is.kept k b has);
    each = λ i e i_within. let new = is.each i e i_within in record {
      one = new.one;
      now = stays (get_or told i e).class (bit_of (get_or told i e).bit) new.now;
      before = new.before;
    };
    all = λ k b has old. by k b old (came k b has);
  }
    where
      by : (k : ℕ) (b : Bit) → ¬ HasBitAt before k b → HasBitAt (bits_of rows) k b ⊎ ((k ≡ c) × (b ≡ bit_of bit)) → Contains told (new_bit k b)
      by k b old (inl there) = is.all k b there old
      by k b old (inr this) = is.all k b
          (subst (λ m. HasBitAt (bits_of rows) m b) (sym this.0)
          (ap (λ u. has_bit u (usage_of b)) was ∙ ap (λ x. has_bit (get_or rows c d).bits (usage_of x)) this.1 ∙ ap (has_bit (get_or rows c d).bits) (sym one) ∙ known)) old

  -- where it hadn't, the bit is
  pub tells-new : (last : NewBit) → last ≡ record { class = c; bit = bit } → has_bit (get_or rows c d).bits bit ≡ false → TellsBits before after (told ++ last ∷ [])
  tells-new last is_last unknown = record {
    kept = λ k b has. stays k b (is.kept k b has);
    each = All-push (IsNew before after) told last
        (λ i e i_within. let new = is.each i e i_within in record {
          one = new.one;
          now = stays (get_or told i e).class (bit_of (get_or told i e).bit) new.now;
          before = new.before;
        })
        (subst (IsNew before after) (sym is_last) (record {
          one = one;
          now = has_now;
          before = λ old. true≢false (sym (ap (has_bit (get_or rows c d).bits) one ∙ ap (λ u. has_bit u (usage_of (bit_of bit))) (sym was) ∙ is.kept c (bit_of bit) old) ∙ unknown);
        }));
    all = λ k b has old. by k b old (came k b has);
  }
    where
      by : (k : ℕ) (b : Bit) → ¬ HasBitAt before k b → HasBitAt (bits_of rows) k b ⊎ ((k ≡ c) × (b ≡ bit_of bit)) → Contains (told ++ last ∷ []) (new_bit k b)
      by k b old (inl there) = Contains-append_left told (last ∷ []) (new_bit k b) (is.all k b there old)
      by k b old (inr this) = subst (Contains (told ++ last ∷ []))
          (is_last ∙ (λ i. record { class = sym this.0 i; bit = (one ∙ ap usage_of (sym this.1)) i }))
          (Contains-append_right told (last ∷ []) last (0, omega arith, refl))

-- where nothing was noted, nothing is told
pub tells-same : (usage : List Usage) → TellsBits usage usage []
tells-same usage = record {
  kept = λ c bit has. has;
  each = All-nil (IsNew usage usage);
  all = λ c bit has before. absurd (before has);
}

-- what a list with more classes tells, it tells of the first one
pub tells-then : (before mid after : List Usage) (told : List NewBit) → TellsBits before mid [] → TellsBits mid after told → TellsBits before after told
tells-then before mid after told first next = record {
  kept = λ c bit has. next.kept c bit (first.kept c bit has);
  each = λ i e within. let new = next.each i e within in record {
    one = new.one;
    now = new.now;
    before = λ old. new.before (first.kept (get_or told i e).class (bit_of (get_or told i e).bit) old);
  };
  all = λ c bit has old. next.all c bit has (λ there. absurd (omega (arith, (first.all c bit there old).1)));
}
