use Rattle.std.proofs.Common.{◌≡◌, ◌<◌, ◌≤◌, ◌+◌, ◌∙◌, ◌∷◌, ◌++◌, [], Vec, length, get_or, map, subst, sym, ap}
use Rattle.std.proofs.lemmas.List.{append-nil, map-append}
use Rattle.ld_class.specs.Names.{PlainClass}
use Rattle.ld_trace.specs.declared.event.State.{State}
use Rattle.ld_rules.specs.Union.{use_witness}
use Rattle.ld_rules.specs.Usage.Bit.{In}
use Rattle.ld_union.specs.Findings.{InTurn, IsBefore, IsConflictRow, IsHarder, conflict_key, plain_conflict_row}
use Rattle.ld_union.specs.Inner.ByName.{class_name, name_at}
use Rattle.ld_union.specs.Inner.Rows.{AreConflictRowsOf, IsConflictRowOf, IsPassed}
use Rattle.ld_union.specs.Violations.{IsConflict}
use Rattle.ld_union.proofs.ByNameLemmas.{names-rise}
use Rattle.ld_union.proofs.PassedLemmas.{passed_all, rows-more}
use Rattle.ld_union.proofs.RowLemmas.{rows-not, rows-one, rows-same}
use Rattle.ld_union.proofs.UsageLemmas.{number_of}
use Rattle.ld_union.proofs.findings.conflicts.conflicts_of.Goals as goal
use Rattle.ld_union.proofs.findings.conflicts.conflicts_of.Goals.{in-Some+in_ok-push, in_default}

pub loop-class-preserved : goal.loop-class-preserved
loop-class-preserved c sources shows =
    let classes = c.args.indexed.union.now.classes in
    let numbers = c.args.indexed.order.now.numbers.items in
    let i = c.loop-class.class-index in
    let name : class_name classes (get_or c.deref-class-items.result.now i 0) ≡ name_at classes numbers i = ap (λ ns. class_name classes (get_or ns i 0)) c.deref-class-items.ensures.value in
    let within : i < length numbers = subst (λ ns. i < length ns) c.deref-class-items.ensures.value c.loop-class-test.true in
    let before = map plain_conflict_row c.loop-class.rows.items in
    let owed = λ (p : State × PlainClass). IsConflict sources p.0 p.1 in
    elim c.match-conflict_row.branch [
      | in-Some+in_ok-push w ↦
          let row = plain_conflict_row w.in-Some.row in
          let is : IsConflictRowOf sources c.args.state (name_at classes numbers i) row = subst (λ n. IsConflictRowOf sources c.args.state n row) name (w.in-Some.ensures sources shows) in
          let items : map plain_conflict_row c.match-conflict_row.rows.items ≡ before ++ row ∷ [] = ap
          (λ (rows : Vec _ _). map plain_conflict_row rows.items) w.rows-is ∙ ap (map plain_conflict_row) w.in_ok-push.ensures.items ∙ map-append
          plain_conflict_row c.loop-class.rows.items (w.in-Some.row ∷ []) in
          subst (AreConflictRowsOf sources (λ p. (p.0 ≡ c.args.state) × IsPassed (name_at classes numbers) (i + 1) p.1)) (sym items)
          (rows-more (name_at classes numbers) IsBefore (length numbers) (names-rise classes numbers c.args.indexed.order.now.places.items c.args.indexed.named) conflict_key (IsConflictRow sources) owed IsHarder c.args.state i
          before (row ∷ []) within (c.loop-class.invariant sources shows)
          (rows-one conflict_key (IsConflictRow sources) owed (InTurn IsHarder IsBefore) (c.args.state, name_at classes numbers i) row is.0 is.1))
      | in_default w ↦
          let none : ¬ IsConflict sources c.args.state (name_at classes numbers i) = subst (λ n. ¬ IsConflict sources c.args.state n) name (w.in_default.ensures sources shows) in
          let items : map plain_conflict_row c.match-conflict_row.rows.items ≡ before ++ [] = ap (λ (rows : Vec _ _). map plain_conflict_row rows.items) w.rows-is ∙ sym (append-nil before) in
          subst (AreConflictRowsOf sources (λ p. (p.0 ≡ c.args.state) × IsPassed (name_at classes numbers) (i + 1) p.1)) (sym items)
          (rows-more (name_at classes numbers) IsBefore (length numbers) (names-rise classes numbers c.args.indexed.order.now.places.items c.args.indexed.named) conflict_key (IsConflictRow sources) owed IsHarder c.args.state i
          before [] within (c.loop-class.invariant sources shows)
          (rows-not conflict_key (IsConflictRow sources) owed (InTurn IsHarder IsBefore) (c.args.state, name_at classes numbers i) none))
    ]

pub returns : goal.returns
returns c sources shows =
    let union = c.args.indexed.union.now in
    let numbers = c.args.indexed.order.now.numbers.items in
    let i = c.loop-class.class-index in
    let past : length numbers ≤ i = subst (λ ns. length ns ≤ i) c.deref-class-items.ensures.value c.loop-class-test.false in
    rows-same conflict_key (IsConflictRow sources) (λ p. IsConflict sources p.0 p.1) (InTurn IsHarder IsBefore)
    (λ p. (p.0 ≡ c.args.state) × IsPassed (name_at union.classes numbers) i p.1) (λ p. p.0 ≡ c.args.state) (map plain_conflict_row c.loop-class.rows.items)
    (λ p here. here.0)
    (λ p owed here.
    let at = number_of union.classes union.usage (use_witness sources) shows.used (record { class = p.1; bit = In p.0 }) owed.0 in
    (here, passed_all union.classes numbers c.args.indexed.order.now.places.items c.args.indexed.named at.0 i p.1 past at.1))
    (c.loop-class.invariant sources shows)
