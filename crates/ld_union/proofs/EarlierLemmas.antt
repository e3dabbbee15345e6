-- Dependencies that were seen before a trace, by blocks and by rows.
use Rattle.std.proofs.Common.{◌≡◌, ◌≢◌, ◌⊎◌, inl, inr, ◌*◌, ◌%◌, ◌^◌, ◌<◌, ◌≤◌, ◌&&◌, ◌==◌, true, List, ℕ, Option, length, get_or, set, max, w64}
use Rattle.std.proofs.Common.{Any, arith, sym, ap, subst, ◌∙◌}
use Rattle.std.proofs.lemmas.Bool.{and_parts, cases_eq, eqb-true, eq-eqb, ltb-true, lt-ltb}
use Rattle.std.proofs.lemmas.Bool.Decides.{nat_tests}
use Rattle.std.proofs.lemmas.List.{get_or-set_other, get_or-set_same, get_or_default, length-set, set-get_or}
use Rattle.std.proofs.lemmas.List.Folds.{Any-from_list_any, list_any_at}
use Rattle.std.proofs.lemmas.Nat.Bits.{bit_at_set_other}
use Rattle.std.proofs.Math.Nat.{div-add-mod, le-max_left, le-max_right}
use Rattle.std.specs.List.{list_any}
use Rattle.std.specs.Prelude.{bit_or, ltb, nat_eq}
use Rattle.ld_class.specs.Blocks.{is_on}
use Rattle.ld_class.specs.Names.{PlainClass}
use Rattle.ld_batch.proofs.EarlierLemmas.{earlier-lower}
use Rattle.ld_graph.specs.declared.Edge.{Edge}
use Rattle.ld_graph.specs.Edges.{edge}
use Rattle.ld_rules.specs.declared.outcome.Witness.{Witness}
use Rattle.ld_rules.specs.Dependency.{Dependency}
use Rattle.ld_rules.specs.Union.{earlier}
use Rattle.ld_union.specs.declared.dependencies.Witnessed.{Witnessed}
use Rattle.ld_union.specs.declared.dependencies.earlier.Block.{Block}
use Rattle.ld_union.specs.Inner.Earlier.{AreEarlier, IsKnownEarlier, block_of, is_earlier, no_block}
use Rattle.ld_union.specs.Inner.Union.{AreBetween, AreWitnessed, named_edge, with_seen}
use Rattle.ld_union.proofs.UnionLemmas.{witnessed-set}

-- The block and the bit tell the dependency.
same_edge : (e f : Edge) → e.from < 1024 → f.from < 1024 → block_of e ≡ block_of f → e.from % 64 ≡ f.from % 64 → e ≡ f
same_edge e f low_e low_f block place =
    let of_e = div-add-mod e.from 64 in
    let of_f = div-add-mod f.from 64 in
    let from : e.from ≡ f.from = omega (arith, of_e, of_f, low_e, low_f, block, place) in
    let to : e.to ≡ f.to = omega (arith, of_e, of_f, low_e, low_f, block, place) in
    λ i. edge (from i) (to i)

-- One more was seen in a trace.
module _ (old mid : List Block) (same : (i : ℕ) → get_or mid i no_block ≡ get_or old i no_block) (e : Edge) (number : ℕ) (few : e.from < 1024)
    (inside : block_of e < length mid) (new : Block)
    (bits : new.bits ≡ bit_or (get_or mid (block_of e) no_block).bits (1 * 2 ^ (e.from % 64) % 2 ^ 64))
    (latest : new.latest ≡ max (get_or mid (block_of e) no_block).latest number) where
  pub before-then : (f : Edge) (n : ℕ) → IsKnownEarlier (set mid (block_of e) new) f n → IsKnownEarlier old f n ⊎ ((f ≡ e) × (number < n))
  before-then f n is = by (cases_eq (block_of f) (block_of e))
    where
      was : Block
      was = get_or mid (block_of e) no_block

      by : (block_of f ≡ block_of e) ⊎ (block_of f ≢ block_of e) → IsKnownEarlier old f n ⊎ ((f ≡ e) × (number < n))
      by (inl here) = by_place (cases_eq (f.from % 64) (e.from % 64))
        where
          read : get_or (set mid (block_of e) new) (block_of f) no_block ≡ new
          read = ap (λ i. get_or (set mid (block_of e) new) i no_block) here ∙ get_or-set_same mid (block_of e) new no_block inside

          later : max was.latest number < n
          later = subst (λ l. l < n) (ap (λ (b : Block). b.latest) read ∙ latest) is.later

          by_place : (f.from % 64 ≡ e.from % 64) ⊎ (f.from % 64 ≢ e.from % 64) → IsKnownEarlier old f n ⊎ ((f ≡ e) × (number < n))
          by_place (inl place) = inr (same_edge f e is.few few here place, omega (arith, later, le-max_right was.latest number))
          by_place (inr other) = inl (record {
            few = is.few;
            on = subst (λ (b : Block). is_on b.bits (f.from % 64) ≡ true) (sym (ap (λ i. get_or mid i no_block) here) ∙ same (block_of f))
                (sym (ap (λ n. n == 1) (bit_at_set_other w64 was.bits (e.from % 64) (omega arith) (f.from % 64) other))
                ∙ sym (ap (λ b. is_on b (f.from % 64)) bits) ∙ sym (ap (λ (b : Block). is_on b.bits (f.from % 64)) read) ∙ is.on);
            later = subst (λ (b : Block). b.latest < n) (sym (ap (λ i. get_or mid i no_block) here) ∙ same (block_of f))
                (omega (arith, later, le-max_left was.latest number));
          })
      by (inr differs) =
          let read = get_or-set_other mid (block_of e) (block_of f) new no_block differs ∙ same (block_of f) in
          inl (record {
            few = is.few;
            on = subst (λ (b : Block). is_on b.bits (f.from % 64) ≡ true) read is.on;
            later = subst (λ (b : Block). b.latest < n) read is.later;
          })

-- The earlier of two witnesses is in no later trace than either.
pub earlier-left : (a b : Witness) → (earlier a b).number ≤ a.number
earlier-left a b = grind (arith, nat_tests)

pub earlier-right : (a b : Witness) → (earlier a b).number ≤ b.number
earlier-right a b = grind (arith, nat_tests)

-- a row of the same dependency that isn't later
lower : (e : Edge) (n : ℕ) (r s : Witnessed) → r.edge ≡ s.edge → r.first.number ≤ s.first.number → is_earlier e n s ≡ true → is_earlier e n r ≡ true
lower e n r s same least is =
    let parts = and_parts (nat_eq s.edge.from e.from && nat_eq s.edge.to e.to) (ltb s.first.number n) is in
    let number : ltb r.first.number n ≡ true = lt-ltb r.first.number n (omega (arith, least, ltb-true s.first.number n parts.1)) in
    λ i. (ap (λ (x : Edge). nat_eq x.from e.from && nat_eq x.to e.to) same ∙ parts.0) i && number i

-- a row tells it
pub earlier-here : (e : Edge) (n : ℕ) (r : Witnessed) → r.edge ≡ e → r.first.number < n → is_earlier e n r ≡ true
earlier-here e n r same before =
    let from : nat_eq r.edge.from e.from ≡ true = eq-eqb r.edge.from e.from (ap (λ (x : Edge). x.from) same) in
    let to : nat_eq r.edge.to e.to ≡ true = eq-eqb r.edge.to e.to (ap (λ (x : Edge). x.to) same) in
    let number : ltb r.first.number n ≡ true = lt-ltb r.first.number n before in
    λ i. from i && to i && number i

-- and what it tells
pub earlier-is : (e : Edge) (n : ℕ) (r : Witnessed) → is_earlier e n r ≡ true → (r.edge ≡ e) × (r.first.number < n)
earlier-is e n r is =
    let parts = and_parts (nat_eq r.edge.from e.from && nat_eq r.edge.to e.to) (ltb r.first.number n) is in
    let ends = and_parts (nat_eq r.edge.from e.from) (nat_eq r.edge.to e.to) parts.0 in
    let from : r.edge.from ≡ e.from = eqb-true r.edge.from e.from ends.0 in
    let to : r.edge.to ≡ e.to = eqb-true r.edge.to e.to ends.1 in
    ((λ i. edge (from i) (to i)), ltb-true r.first.number n parts.1)

-- Row n gets an earlier witness.
module _ (rows : List Witnessed) (n : ℕ) (r : Witnessed) (within : n < length rows) (same : r.edge ≡ (get_or rows n r).edge)
    (least : r.first.number ≤ (get_or rows n r).first.number) where
  found-set : (e : Edge) (number : ℕ) → list_any (is_earlier e number) rows ≡ true → list_any (is_earlier e number) (set rows n r) ≡ true
  found-set e number found = by (cases_eq at.0 n)
    where
      at : Any (λ r. is_earlier e number r ≡ true) rows
      at = Any-from_list_any (is_earlier e number) rows found

      by : (at.0 ≡ n) ⊎ (at.0 ≢ n) → list_any (is_earlier e number) (set rows n r) ≡ true
      by (inl here) =
          list_any_at (is_earlier e number) (set rows n r) n r (subst (λ m. n < m) (sym (length-set rows n r)) within)
          (ap (is_earlier e number) (get_or-set_same rows n r r within)
          ∙ lower e number r (get_or rows n r) same least
          (subst (λ x. is_earlier e number x ≡ true) (sym at.3 ∙ ap (λ m. get_or rows m at.1) here ∙ get_or_default rows n at.1 r within) at.4))
      by (inr other) =
          list_any_at (is_earlier e number) (set rows n r) at.0 at.1 (subst (λ m. at.0 < m) (sym (length-set rows n r)) at.2)
          (ap (is_earlier e number) (get_or-set_other rows n at.0 r at.1 other ∙ at.3) ∙ at.4)

  pub earlier-set : (blocks : List Block) → AreEarlier rows blocks → AreEarlier (set rows n r) blocks
  earlier-set blocks are e number is = found-set e number (are e number is)

-- Row n tells it once it is this one.
pub here-set : (rows : List Witnessed) (n : ℕ) (r : Witnessed) → n < length rows → (e : Edge) (number : ℕ) → r.edge ≡ e → r.first.number < number
    → list_any (is_earlier e number) (set rows n r) ≡ true
here-set rows n r within e number is before =
    list_any_at (is_earlier e number) (set rows n r) n r (subst (λ m. n < m) (sym (length-set rows n r)) within)
    (ap (is_earlier e number) (get_or-set_same rows n r r within) ∙ earlier-here e number r is before)

-- A dependency that was seen in an earlier trace keeps its first occurrence.
pub witnessed-again : (classes : List PlainClass) (rows : List Witnessed) → AreBetween classes rows → (e : Edge) (witness : Witness)
    → list_any (is_earlier e witness.number) rows ≡ true → (first : Dependency → Option Witness) → AreWitnessed classes rows first
    → AreWitnessed classes rows (with_seen first (named_edge classes e) witness)
witnessed-again classes rows between e witness found first witnessed =
    let at = Any-from_list_any (is_earlier e witness.number) rows found in
    let row = at.1 in
    let is = earlier-is e witness.number row at.4 in
    subst (λ these. AreWitnessed classes these (with_seen first (named_edge classes e) witness))
    (ap (set rows at.0) (sym at.3) ∙ set-get_or rows at.0 row)
    (witnessed-set classes rows between at.0 e at.2
    (λ d. ap (λ (x : Witnessed). x.edge) (get_or_default rows at.0 d row at.2 ∙ at.3) ∙ is.0)
    row is.0 witness
    (sym (earlier-lower row.first witness is.1) ∙ ap (λ (x : Witnessed). earlier x.first witness) (sym at.3))
    first witnessed)
