use Rattle.std.proofs.Common.{◌+◌, ◌∙◌, arith, get_or, length, map, subst, sym}
use Rattle.std.proofs.lemmas.List.Elements.{Contains-get_or}
use Rattle.ld_rules.specs.Union.{use_witness}
use Rattle.ld_rules.specs.Usage.Bit.{In}
use Rattle.ld_union.specs.Findings.{IsBefore, IsPairBefore}
use Rattle.ld_union.specs.Inner.ByName.{name_at}
use Rattle.ld_union.specs.Inner.Rows.{AreEndRowsOf, AreWithBit, IsPassed, IsRowIn, ends_of}
use Rattle.ld_union.specs.Inner.Walks.{walk_row}
use Rattle.ld_union.specs.Violations.{HasBit, IsForbidden}
use Rattle.ld_union.proofs.BitLemmas.{bits_from_used}
use Rattle.ld_union.proofs.PassedLemmas.{passed_in, rows-next}
use Rattle.ld_union.proofs.RowLemmas.{rows-all}
use Rattle.ld_union.proofs.UsageLemmas.{number_of}
use Rattle.ld_union.proofs.findings.forbidden.walks_by_ends.Goals as goal

pub search-requires-clause-start : goal.search-requires-clause-start
search-requires-clause-start c =
    let numbers = c.deref-from-items.result.now in
    let with = subst (AreWithBit c.args.indexed.union.now c.in_bit.result) (sym c.deref-from-items.ensures.value) c.in_ok-firsts.ensures in
    let low = ((with.each (get_or numbers c.loop-from.from-index 0)).0 (Contains-get_or numbers c.loop-from.from-index 0 c.loop-from-test.true)).0 in
    omega (arith, low, c.in_ok-leading.ensures.size)

pub walks_from-requires-clause-from : goal.walks_from-requires-clause-from
walks_from-requires-clause-from c =
    let numbers = c.deref-from-items.result.now in
    let with = subst (AreWithBit c.args.indexed.union.now c.in_bit.result) (sym c.deref-from-items.ensures.value) c.in_ok-firsts.ensures in
    ((with.each (get_or numbers c.loop-from.from-index 0)).0 (Contains-get_or numbers c.loop-from.from-index 0 c.loop-from-test.true)).0

pub walks_from-requires-clause-acquired : goal.walks_from-requires-clause-acquired
walks_from-requires-clause-acquired c =
    let numbers = c.deref-from-items.result.now in
    let union = c.args.indexed.union.now in
    let with = subst (λ b. AreWithBit union b numbers) c.in_bit.ensures (subst (AreWithBit union c.in_bit.result) (sym c.deref-from-items.ensures.value) c.in_ok-firsts.ensures) in
    ((with.each (get_or numbers c.loop-from.from-index 0)).0 (Contains-get_or numbers c.loop-from.from-index 0 c.loop-from-test.true)).1

pub loop-from-preserved : goal.loop-from-preserved
loop-from-preserved c = record {
  size = c.in_ok-search.ensures.size ∙ c.loop-from.invariant.size;
  within = c.in_ok-walks_from.ensures.within;
  rows = λ sources shows.
      let union = c.args.indexed.union.now in
      let classes = union.classes in
      let numbers = c.deref-from-items.result.now in
      let with = subst (AreWithBit c.args.indexed.union.now c.in_bit.result) (sym c.deref-from-items.ensures.value) c.in_ok-firsts.ensures in
      let state = c.args.state in
      let i = c.loop-from.from-index in
      let behind = c.in_ok-walks_from.ensures.rows sources shows in
      subst (AreEndRowsOf sources state (λ p. IsPassed (name_at classes numbers) (i + 1) p.0)) (sym behind.grown)
      (rows-next (name_at classes numbers) IsBefore (length numbers) with.rising ends_of (IsRowIn sources state)
      (λ p. IsForbidden sources state p.0 p.1) IsBefore i (map (walk_row union state) c.loop-from.walks) behind.more c.loop-from-test.true
      (c.loop-from.invariant.rows sources shows) behind.are);
}

pub returns-clause-rows : goal.returns-clause-rows
returns-clause-rows c sources shows =
    let union = c.args.indexed.union.now in
    let numbers = c.deref-from-items.result.now in
    let with = subst (λ b. AreWithBit union b numbers) c.in_bit.ensures (subst (AreWithBit union c.in_bit.result) (sym c.deref-from-items.ensures.value) c.in_ok-firsts.ensures) in
    let state = c.args.state in
    let i = c.loop-from.from-index in
    rows-all ends_of (IsRowIn sources state) (λ p. IsForbidden sources state p.0 p.1) IsPairBefore (λ p. IsPassed (name_at union.classes numbers) i p.0) (map (walk_row union state) c.loop-from.walks)
    (λ p owed.
    let at = number_of union.classes union.usage (use_witness sources) shows.used (record { class = p.0; bit = In state }) owed.0 in
    let bit = ((bits_from_used union.classes union.usage sources shows.used).each at.0 (In state) at.1.0).1
    (subst (λ n. HasBit sources n (In state)) (sym at.1.1) owed.0) in
    passed_in union.classes numbers at.0 i p.0 c.loop-from-test.false ((with.each at.0).1 (at.1.0, bit)) at.1.1)
    (c.loop-from.invariant.rows sources shows)
