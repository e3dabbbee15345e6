use Rattle.std.proofs.Common.{◌≡◌, ◌∙◌, ◌++◌, map, subst, sym, ap}
use Rattle.std.proofs.lemmas.List.{map-append}
use Rattle.ld_union.specs.Findings.{AreConflictRows, IsBefore, IsConflictRow, conflict_key, plain_conflict_row}
use Rattle.ld_union.specs.Violations.{IsConflict}
use Rattle.ld_union.proofs.RowLemmas.{rows-states}
use Rattle.ld_union.proofs.findings.conflicts.conflict_rows.Goals as goal

pub returns : goal.returns
returns c sources shows =
    let hard = map plain_conflict_row c.in_ok-rows.rows.items in
    let soft = map plain_conflict_row c.in_ok-soft.soft.items in
    let items : map plain_conflict_row c.append.new.self.items ≡ hard ++ soft = ap (map plain_conflict_row) c.in_ok-append.ensures.items ∙ map-append
    plain_conflict_row c.in_ok-rows.rows.items c.in_ok-soft.soft.items in
    subst (AreConflictRows sources) (sym items)
    (rows-states conflict_key (IsConflictRow sources) (λ p. IsConflict sources p.0 p.1) IsBefore hard soft (c.in_ok-rows.ensures sources shows) (c.in_ok-soft.ensures sources shows))
