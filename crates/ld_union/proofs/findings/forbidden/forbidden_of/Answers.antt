use Rattle.std.proofs.Common.{◌≡◌, ◌∙◌, map, refl, subst, sym}
use Rattle.std.proofs.lemmas.List.Elements.{All-map, All-nil}
use Rattle.ld_trace.specs.declared.event.State.{State}
use Rattle.ld_union.specs.Findings.{AreOfState, InTurn, IsForbiddenRow, IsHarder, IsPairBefore, PlainForbiddenRow, forbidden_key}
use Rattle.ld_union.specs.Inner.Rows.{AreForbiddenRowsOf}
use Rattle.ld_union.specs.Inner.Walks.{walk_row}
use Rattle.ld_union.specs.Violations.{IsForbidden}
use Rattle.ld_union.proofs.ForbiddenLemmas.{rows-of_state}
use Rattle.ld_union.proofs.RowLemmas.{None_from_is_some, rows-none}
use Rattle.ld_union.proofs.findings.forbidden.forbidden_of.Goals as goal

pub returns-clause-rows : goal.returns-clause-rows
returns-clause-rows c sources shows found =
    subst (AreForbiddenRowsOf sources (λ k. k.0 ≡ c.args.state)) (sym c.new.ensures)
    (rows-of_state sources c.args.state (map (walk_row c.args.indexed.union.now c.args.state) c.in_ok-walks.walks) (c.in_ok-walks.ensures.rows sources shows))

pub returns-then-is_none-clause-rows : goal.returns-then-is_none-clause-rows
returns-then-is_none-clause-rows c sources shows found =
    subst (AreForbiddenRowsOf sources (λ k. k.0 ≡ c.args.state)) (sym c.none.ensures)
    (rows-none forbidden_key (IsForbiddenRow sources) (λ k. IsForbidden sources k.0 k.1.0 k.1.1) (InTurn IsHarder IsPairBefore) (λ k. k.0 ≡ c.args.state)
    (λ k walk here. found.forbidden c.args.state (sym c.get.ensures ∙ None_from_is_some c.get.result c.if-is_none.ensures) k.1.0 k.1.1
    (subst (λ (s : State). IsForbidden sources s k.1.0 k.1.1) here walk)))

pub returns-clause-state : goal.returns-clause-state
returns-clause-state c =
    let state = c.args.state in
    subst (AreOfState state) (sym c.new.ensures)
    (All-map (λ (row : PlainForbiddenRow). row.state ≡ state) (walk_row c.args.indexed.union.now state) c.in_ok-walks.walks (λ k d low. refl))

pub returns-then-is_none-clause-state : goal.returns-then-is_none-clause-state
returns-then-is_none-clause-state c =
    subst (AreOfState c.args.state) (sym c.none.ensures) (All-nil (λ (row : PlainForbiddenRow). row.state ≡ c.args.state))
