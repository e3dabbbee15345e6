use Rattle.std.proofs.Common.{◌≡◌, ◌<◌, ◌≤◌, ◌+◌, ◌∙◌, ◌++◌, get_or, length, map, subst, sym, ap}
use Rattle.std.proofs.lemmas.List.{map-append}
use Rattle.ld_union.specs.Findings.{AreCycleRows, IsBefore, IsCycleRow, IsPairBefore, cycle_key, plain_cycle_row}
use Rattle.ld_union.specs.Inner.ByName.{class_name, name_at}
use Rattle.ld_union.specs.Inner.Rows.{AreCycleRowsOf, IsPassed}
use Rattle.ld_union.specs.Violations.{IsCycle}
use Rattle.ld_union.proofs.ByNameLemmas.{names-rise}
use Rattle.ld_union.proofs.NumberLemmas.{edge_from_depends}
use Rattle.ld_union.proofs.PassedLemmas.{passed_all, rows-next}
use Rattle.ld_union.proofs.RowLemmas.{None_from_is_some, rows-absent, rows-all}
use Rattle.ld_union.proofs.findings.cycles.cycle_rows.Goals as goal

pub loop-from-preserved : goal.loop-from-preserved
loop-from-preserved c = record {
  len = c.in_ok-more.ensures.distances;
  rows = λ sources shows.
      let union = c.args.indexed.union.now in
      let classes = union.classes in
      let numbers = c.args.indexed.order.now.numbers.items in
      let i = c.loop-from.from-index in
      let name : class_name classes (get_or c.deref-from-items.result.now i 0) ≡ name_at classes numbers i = ap (λ ns. class_name classes (get_or ns i 0)) c.deref-from-items.ensures.value in
      let within : i < length numbers = subst (λ ns. i < length ns) c.deref-from-items.ensures.value c.loop-from-test.true in
      let before = map plain_cycle_row c.loop-from.rows.items in
      let more = map plain_cycle_row c.in_ok-more.more.items in
      let items : map plain_cycle_row c.append.new.self.items ≡ before ++ more = ap (map plain_cycle_row) c.in_ok-append.ensures.items ∙ map-append
      plain_cycle_row c.loop-from.rows.items c.in_ok-more.more.items in
      subst (AreCycleRowsOf sources (λ p. IsPassed (name_at classes numbers) (i + 1) p.0)) (sym items)
      (rows-next (name_at classes numbers) IsBefore (length numbers) (names-rise classes numbers c.args.indexed.order.now.places.items c.args.indexed.named) cycle_key (IsCycleRow sources) (λ p. IsCycle sources p.0 p.1) IsBefore i
      before more within (c.loop-from.invariant.rows sources shows)
      (subst (λ n. AreCycleRowsOf sources (λ p. p.0 ≡ n) more) name (c.in_ok-more.ensures.rows sources shows)));
}

pub returns : goal.returns
returns c sources shows found =
    let union = c.args.indexed.union.now in
    let numbers = c.args.indexed.order.now.numbers.items in
    let i = c.loop-from.from-index in
    let past : length numbers ≤ i = subst (λ ns. length ns ≤ i) c.deref-from-items.ensures.value c.loop-from-test.false in
    rows-all cycle_key (IsCycleRow sources) (λ p. IsCycle sources p.0 p.1) IsPairBefore (λ p. IsPassed (name_at union.classes numbers) i p.0) (map plain_cycle_row c.loop-from.rows.items)
    (λ p owed.
    let at = edge_from_depends union.classes union.dependencies shows.numbered sources shows.witnesses p.0 p.1 owed.0 in
    passed_all union.classes numbers c.args.indexed.order.now.places.items c.args.indexed.named at.0 i p.0 past at.1.1.0)
    (c.loop-from.invariant.rows sources shows)

pub returns-then-is_none : goal.returns-then-is_none
returns-then-is_none c sources shows found =
    subst (AreCycleRows sources) (sym (ap (map plain_cycle_row) c.new-rows.ensures.items))
    (rows-absent cycle_key (IsCycleRow sources) (λ p. IsCycle sources p.0 p.1) IsPairBefore (λ p cycle. found.cycle (None_from_is_some c.args.found.now.cycle c.if-is_none.ensures) p.0 p.1 cycle))
