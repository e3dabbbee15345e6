-- What is kept of the usage of the classes, after one more bit was seen.
use Rattle.std.proofs.Common.{◌≡◌, ◌≢◌, ◌⊎◌, inl, inr, ◌-◌, ◌<◌, ◌≤◌, ◌&&◌, ◌++◌, ◌∷◌, [], List, ℕ, Bool, true, false, cond, Option, Some, None}
use Rattle.std.proofs.Common.{is_some, length, map, fold, set, take, replicate, get_or, refl, sym, ap, ◌∙◌, if◌then◌else◌, arith, length-append, w8}
use Rattle.std.proofs.lemmas.Bool.{true≢false, and_parts, cases_eq, cases_order, false_from_ne_true}
use Rattle.std.proofs.lemmas.List.{get_or-map, get_or-take, get_or-set_same, get_or-set_other, get_or_append_left, get_or-append_right}
use Rattle.std.proofs.lemmas.List.{get_or-replicate, length-map, length-replicate, length-set, same_lists, take_all}
use Rattle.std.specs.Int.{trailing_zeros}
use Rattle.std.specs.List.{position_or_len}
use Rattle.ld_class.specs.declared.usage.Usage.{Usage}
use Rattle.ld_class.specs.Names.{AreDistinct, IsNameAt, PlainClass, no_class, place_of, same_class}
use Rattle.ld_class.specs.Usage.{either, has_bit, in_hard, in_soft, no_bits, on_hard, on_soft}
use Rattle.ld_class.proofs.NameLemmas.{place_of-at, place_of-Some, same_class-Decides}
use Rattle.ld_trace.specs.declared.event.State.TheVariants.{Hard, Soft}
use Rattle.ld_rules.specs.declared.outcome.Witness.{Witness}
use Rattle.ld_rules.specs.Usage.{Bit, Use, same_bit, same_use, usage_of}
use Rattle.ld_rules.specs.Usage.Bit.{In, On}
use Rattle.ld_union.specs.declared.usage.UsageRow.{UsageRow}
use Rattle.ld_batch.specs.Inner.Names.{IsLonger}
use Rattle.ld_union.specs.Inner.Union.{AreUsed, earlier_of, of_class, with_bit, with_first_use}
use Rattle.ld_union.specs.Usage.{bits, row_of, witnessed_bits}
use Rattle.ld_batch.proofs.SourceLemmas.{earlier_of-none}
use Rattle.ld_union.proofs.UnionLemmas.{seen_cases}

-- the one 1 of a bit's number stands at the bit's place
pub place_of-bit : (bit : Bit) → trailing_zeros w8 (usage_of bit).0 ≡ position_or_len (same_bit bit) bits
unfolding lib.Count.count_trailing_zeros
place_of-bit (In Hard) = refl
place_of-bit (On Hard) = refl
place_of-bit (In Soft) = refl
place_of-bit (On Soft) = refl

-- the set of the bits that are there, in their order
abbrev these : Bool → Bit → List Bit → List Bit
these there bit more = cond there (bit ∷ more) more

abbrev set_by : Bool → Bool → Bool → Bool → Usage
set_by a b c d = fold either no_bits (map usage_of (these a (In Hard) (these b (On Hard) (these c (In Soft) (these d (On Soft) [])))))

-- and one bit more
one_more : (a b c d : Bool) → (either (set_by a b c d) in_hard ≡ set_by true b c d) × (either (set_by a b c d) on_hard ≡ set_by a true c d) ×
    (either (set_by a b c d) in_soft ≡ set_by a b true d) × (either (set_by a b c d) on_soft ≡ set_by a b c true)
one_more true true true true = (refl, refl, refl, refl)
one_more true true true false = (refl, refl, refl, refl)
one_more true true false true = (refl, refl, refl, refl)
one_more true true false false = (refl, refl, refl, refl)
one_more true false true true = (refl, refl, refl, refl)
one_more true false true false = (refl, refl, refl, refl)
one_more true false false true = (refl, refl, refl, refl)
one_more true false false false = (refl, refl, refl, refl)
one_more false true true true = (refl, refl, refl, refl)
one_more false true true false = (refl, refl, refl, refl)
one_more false true false true = (refl, refl, refl, refl)
one_more false true false false = (refl, refl, refl, refl)
one_more false false true true = (refl, refl, refl, refl)
one_more false false true false = (refl, refl, refl, refl)
one_more false false false true = (refl, refl, refl, refl)
one_more false false false false = (refl, refl, refl, refl)

-- what the set has
tests : (a b c d : Bool) → (has_bit (set_by a b c d) in_hard ≡ a) × (has_bit (set_by a b c d) on_hard ≡ b) × (has_bit (set_by a b c d) in_soft ≡ c) × (has_bit (set_by a b c d) on_soft ≡ d)
tests true true true true = (refl, refl, refl, refl)
tests true true true false = (refl, refl, refl, refl)
tests true true false true = (refl, refl, refl, refl)
tests true true false false = (refl, refl, refl, refl)
tests true false true true = (refl, refl, refl, refl)
tests true false true false = (refl, refl, refl, refl)
tests true false false true = (refl, refl, refl, refl)
tests true false false false = (refl, refl, refl, refl)
tests false true true true = (refl, refl, refl, refl)
tests false true true false = (refl, refl, refl, refl)
tests false true false true = (refl, refl, refl, refl)
tests false true false false = (refl, refl, refl, refl)
tests false false true true = (refl, refl, refl, refl)
tests false false true false = (refl, refl, refl, refl)
tests false false false true = (refl, refl, refl, refl)
tests false false false false = (refl, refl, refl, refl)

-- the set of a row has a bit where the bit has a witness
pub has_bit-row_of : (first : Bit → Option Witness) (bit : Bit) → has_bit (row_of first).bits (usage_of bit) ≡ is_some (first bit)
has_bit-row_of first bit = by bit
  where
    all : (has_bit (row_of first).bits in_hard ≡ is_some (first (In Hard))) × (has_bit (row_of first).bits on_hard ≡ is_some (first (On Hard))) ×
        (has_bit (row_of first).bits in_soft ≡ is_some (first (In Soft))) × (has_bit (row_of first).bits on_soft ≡ is_some (first (On Soft)))
    all = tests (is_some (first (In Hard))) (is_some (first (On Hard))) (is_some (first (In Soft))) (is_some (first (On Soft)))

    by : (b : Bit) → has_bit (row_of first).bits (usage_of b) ≡ is_some (first b)
    by (In Hard) = all.0
    by (On Hard) = all.1
    by (In Soft) = all.2
    by (On Soft) = all.3

module _ (first : Bit → Option Witness) (witness : Witness) where
  -- whether a bit has a witness then
  kept : (bit : Bit) → is_some (first bit) ≡ is_some (earlier_of (first bit) None)
  kept bit = ap is_some (earlier_of-none (first bit))

  seen : (bit : Bit) → true ≡ is_some (earlier_of (first bit) (Some witness))
  seen bit = by (first bit)
    where
      by : (before : Option Witness) → true ≡ is_some (earlier_of before (Some witness))
      by None = refl
      by (Some known) = refl

  bits_then : (bit : Bit) → either (witnessed_bits first) (usage_of bit) ≡ witnessed_bits (with_bit first bit witness)
  bits_then (In Hard) =
      (one_more (is_some (first (In Hard))) (is_some (first (On Hard))) (is_some (first (In Soft))) (is_some (first (On Soft)))).0
      ∙ (λ i. set_by (seen (In Hard) i) (kept (On Hard) i) (kept (In Soft) i) (kept (On Soft) i))
  bits_then (On Hard) =
      (one_more (is_some (first (In Hard))) (is_some (first (On Hard))) (is_some (first (In Soft))) (is_some (first (On Soft)))).1
      ∙ (λ i. set_by (kept (In Hard) i) (seen (On Hard) i) (kept (In Soft) i) (kept (On Soft) i))
  bits_then (In Soft) =
      (one_more (is_some (first (In Hard))) (is_some (first (On Hard))) (is_some (first (In Soft))) (is_some (first (On Soft)))).2
      ∙ (λ i. set_by (kept (In Hard) i) (kept (On Hard) i) (seen (In Soft) i) (kept (On Soft) i))
  bits_then (On Soft) =
      (one_more (is_some (first (In Hard))) (is_some (first (On Hard))) (is_some (first (In Soft))) (is_some (first (On Soft)))).3
      ∙ (λ i. set_by (kept (In Hard) i) (kept (On Hard) i) (kept (In Soft) i) (seen (On Soft) i))

  -- the witnesses then
  same : (bit : Bit) → first bit ≡ earlier_of (first bit) None
  same bit = earlier_of-none (first bit)

  witnesses_then : (bit : Bit) → set (map first bits) (position_or_len (same_bit bit) bits)
      (earlier_of (get_or (map first bits) (position_or_len (same_bit bit) bits) None) (Some witness)) ≡ map (with_bit first bit witness) bits
  witnesses_then (In Hard) = λ i. earlier_of (first (In Hard)) (Some witness) ∷ same (On Hard) i ∷ same (In Soft) i ∷ same (On Soft) i ∷ []
  witnesses_then (On Hard) = λ i. same (In Hard) i ∷ earlier_of (first (On Hard)) (Some witness) ∷ same (In Soft) i ∷ same (On Soft) i ∷ []
  witnesses_then (In Soft) = λ i. same (In Hard) i ∷ same (On Hard) i ∷ earlier_of (first (In Soft)) (Some witness) ∷ same (On Soft) i ∷ []
  witnesses_then (On Soft) = λ i. same (In Hard) i ∷ same (On Hard) i ∷ same (In Soft) i ∷ earlier_of (first (On Soft)) (Some witness) ∷ []

  -- the row then
  pub row_then : (bit : Bit) (row : UsageRow) (place : ℕ) (earliest : Option Witness) → row ≡ row_of first → place ≡ position_or_len (same_bit bit)
      bits → earliest ≡ earlier_of (get_or row.first place None) (Some witness)
      → ◌≡◌ {A = UsageRow} (record { bits = either row.bits (usage_of bit); first = set row.first place earliest }) (row_of (with_bit first bit witness))
  row_then bit row place earliest is at least =
      (λ i. record { bits = either (is i).bits (usage_of bit); first = set (is i).first (at i) ((least ∙ (λ j. earlier_of (get_or (is j).first (at j) None) (Some witness))) i) })
      ∙ (λ i. record { bits = bits_then bit i; first = witnesses_then bit i })

module _ (classes : List PlainClass) (rows : List UsageRow) (first : Use → Option Witness) (used : AreUsed classes rows first) where
  pub length_used : length rows ≡ length classes
  length_used = ap length used.each ∙ length-map classes (λ class. row_of (of_class first class))

  -- the row of a class by its number
  pub row_at : (c : ℕ) (d : UsageRow) → c < length classes → get_or rows c d ≡ row_of (of_class first (get_or classes c no_class))
  row_at c d within = ap (λ all. get_or all c d) used.each ∙ get_or-map (λ class. row_of (of_class first class)) classes c no_class d within

  -- a class with a bit that was seen has a number
  pub number_of : (what : Use) → is_some (first what) ≡ true → (c : ℕ) × IsNameAt classes c what.class
  number_of what seen = by (place_of classes what.class) refl
    where
      by : (place : Option ℕ) → place_of classes what.class ≡ place → (c : ℕ) × IsNameAt classes c what.class
      by None is = absurd (true≢false (sym (used.known what seen) ∙ ap is_some is))
      by (Some c) is = (c, place_of-Some classes what.class c is)

  module _ (distinct : AreDistinct classes) (c : ℕ) (within : c < length classes) (bit : Bit) (witness : Witness) where
    abbrev pub this_use : Use
    this_use = record { class = get_or classes c no_class; bit = bit }

    -- the class's own row
    own_row : row_of (with_bit (of_class first this_use.class) bit witness) ≡ row_of (of_class (with_first_use first this_use witness) this_use.class)
    own_row =
        let same : true ≡ same_class this_use.class this_use.class = sym ((same_class-Decides this_use.class this_use.class).1 refl) in
        λ i. row_of (λ b. earlier_of (of_class first this_use.class b) (if same i && same_bit b bit then Some witness else None))

    -- other classes keep theirs
    other_row : (k : ℕ) → k < length classes → k ≢ c → row_of (of_class first (get_or classes k no_class)) ≡ row_of (of_class (with_first_use first this_use witness) (get_or classes k no_class))
    other_row k k_within differs =
        let apart : same_class (get_or classes k no_class) this_use.class ≡ false = false_from_ne_true _
        (λ same. differs (distinct k c this_use.class (k_within, (same_class-Decides (get_or classes k no_class) this_use.class).0 same) (within, refl))) in
        let tests : false ≡ same_class (get_or classes k no_class) this_use.class = sym apart in
        (λ i. row_of (λ b. earlier_of-none (of_class first (get_or classes k no_class) b) i))
        ∙ (λ i. row_of (λ b. earlier_of (of_class first (get_or classes k no_class) b) (if tests i && same_bit b bit then Some witness else None)))

    pub used-seen : (row : UsageRow) → row ≡ row_of (with_bit (of_class first this_use.class) bit witness) → AreUsed classes (set rows c row) (with_first_use first this_use witness)
    used-seen row is = record {
      each = same_lists (set rows c row) (map row_then_of classes) lengths at;
      known = λ what h. known what (seen_cases (first what) witness (same_use what this_use) h);
    }
      where
        row_then_of : PlainClass → UsageRow
        row_then_of class = row_of (of_class (with_first_use first this_use witness) class)

        lengths : length (set rows c row) ≡ length (map row_then_of classes)
        lengths = length-set rows c row ∙ length_used ∙ sym (length-map classes row_then_of)

        at : (k : ℕ) (d : UsageRow) → k < length (set rows c row) → get_or (set rows c row) k d ≡ get_or (map row_then_of classes) k d
        at k d k_in = by (cases_eq k c) ∙ sym (get_or-map row_then_of classes k no_class d k_within)
          where
            k_within : k < length classes
            k_within = omega (arith, k_in, length-set rows c row, length_used)

            by : (k ≡ c) ⊎ (k ≢ c) → get_or (set rows c row) k d ≡ row_then_of (get_or classes k no_class)
            by (inl same) = ap (λ m. get_or (set rows c row) m d) same ∙ get_or-set_same rows c row d (omega (arith, within, length_used)) ∙ is ∙
                own_row ∙ ap (λ m. row_then_of (get_or classes m no_class)) (sym same)
            by (inr differs) = get_or-set_other rows c k row d differs ∙ row_at k d k_within ∙ other_row k k_within differs

        known : (what : Use) → (same_use what this_use ≡ true) ⊎ (is_some (first what) ≡ true) → is_some (place_of classes what.class) ≡ true
        known what (inl same) =
            let equal = (same_class-Decides what.class this_use.class).0 (and_parts (same_class what.class this_use.class) (same_bit what.bit bit) same).0 in
            ap is_some (place_of-at classes what.class c distinct (within, sym equal))
        known what (inr before) = used.known what before

  -- more classes, none of whose bits was seen
  module _ (more : List PlainClass) (count : ℕ) (distinct : AreDistinct more) (longer : IsLonger classes more count) where
    pub same_name : (k : ℕ) → k < length classes → get_or classes k no_class ≡ get_or more k no_class
    same_name k within = ap (λ names. get_or names k no_class) (sym longer.front) ∙ get_or-take (length classes) more k no_class within

    -- a class with a bit that was seen keeps its number
    pub number_in_more : (what : Use) → is_some (first what) ≡ true → (c : ℕ) × ((c < length classes) × IsNameAt more c what.class)
    number_in_more what seen =
        let at = number_of what seen in
        (at.0, (at.1.0, (omega (arith, at.1.0, longer.least), sym (same_name at.0 at.1.0) ∙ at.1.1)))

    -- so no bit of a new one was seen
    unseen : (k : ℕ) (bit : Bit) → length classes ≤ k → k < length more → None ≡ of_class first (get_or more k no_class) bit
    unseen k bit past within = by (of_class first (get_or more k no_class) bit) refl
      where
        by : (o : Option Witness) → of_class first (get_or more k no_class) bit ≡ o → None ≡ of_class first (get_or more k no_class) bit
        by None is = sym is
        by (Some w) is =
            let at = number_in_more (record { class = get_or more k no_class; bit = bit }) (ap is_some is) in
            let same : at.0 ≡ k = distinct at.0 k (get_or more k no_class) at.1.1 (within, refl) in
            absurd (omega (arith, at.1.0, past, same))

    pub used-longer : AreUsed more (take (length more) rows ++ replicate (length more - length rows) (row_of (λ bit. None))) first
    used-longer = record {
      each = ap (λ front. front ++ new) (take_all (length more) rows (omega (arith, length_used, longer.least))) ∙ same_lists (rows ++ new) (map row_of_class more) lengths at;
      known = λ what h. let found = number_in_more what h in ap is_some (place_of-at more what.class found.0 distinct found.1.1);
    }
      where
        new : List UsageRow
        new = replicate (length more - length rows) (row_of (λ bit. None))

        row_of_class : PlainClass → UsageRow
        row_of_class class = row_of (of_class first class)

        lengths : length (rows ++ new) ≡ length (map row_of_class more)
        lengths = omega (arith, length-append rows new, length-replicate (length more - length rows) (row_of (λ bit. None)), length-map more row_of_class, length_used, longer.least)

        old_at : (k : ℕ) (d : UsageRow) → k < length classes → get_or (rows ++ new) k d ≡ row_of_class (get_or more k no_class)
        old_at k d within = get_or_append_left rows new d k (omega (arith, within, length_used)) ∙ row_at k d within ∙ ap row_of_class (same_name k within)

        new_at : (k : ℕ) (d : UsageRow) → length classes ≤ k → k < length more → get_or (rows ++ new) k d ≡ row_of_class (get_or more k no_class)
        new_at k d past within =
            get_or-append_right rows new (length classes) k d length_used past
            ∙ get_or-replicate (length more - length rows) (k - length classes) (row_of (λ bit. None)) d (omega (arith, past, within, length_used))
            ∙ (λ i. row_of (λ bit. unseen k bit past within i))

        at : (k : ℕ) (d : UsageRow) → k < length (rows ++ new) → get_or (rows ++ new) k d ≡ get_or (map row_of_class more) k d
        at k d k_in = by (cases_order k (length classes)) ∙ sym (get_or-map row_of_class more k no_class d within)
          where
            within : k < length more
            within = omega (arith, k_in, lengths, length-map more row_of_class)

            by : (k ≡ length classes) ⊎ ((k < length classes) ⊎ (length classes < k)) → get_or (rows ++ new) k d ≡ row_of_class (get_or more k no_class)
            by (inl same) = new_at k d (omega (arith, same)) within
            by (inr (inl before)) = old_at k d before
            by (inr (inr after)) = new_at k d (omega (arith, after)) within
