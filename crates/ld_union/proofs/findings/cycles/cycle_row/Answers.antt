use Rattle.std.proofs.Common.{◌≡◌, ◌≢◌, ◌∙◌, [], arith, map, None, Some, get_or, refl, subst, sym, ap}
use Rattle.std.specs.Option.{is_some}
use Rattle.std.proofs.lemmas.List.{get_or_default}
use Rattle.std.proofs.lemmas.Option.{MatchOption-at_none, MatchOption-at_some}
use Rattle.ld_graph.specs.Edges.{IsEdge, IsEdgeNumber, edge}
use Rattle.ld_rules.specs.Union.{dependency_witness}
use Rattle.ld_rules.specs.Dependency.{Dependency}
use Rattle.ld_union.specs.declared.dependencies.Witnessed.{Witnessed}
use Rattle.ld_union.specs.Findings.{IsShown, plain_cycle_row}
use Rattle.ld_union.specs.Inner.ByName.{class_name}
use Rattle.ld_union.specs.Inner.Union.{edges_of}
use Rattle.ld_union.proofs.CycleLemmas.{cycle-row, no_cycle-back, no_cycle-edge, no_cycle-walk, no_walk}
use Rattle.ld_union.proofs.UnionLemmas.{edge_of_row, first_at, found_row}
use Rattle.ld_union.proofs.findings.cycles.cycle_row.Goals as goal
use Rattle.ld_union.proofs.findings.cycles.cycle_row.Goals.{then-to-from, else-to-from+in_ok-via+in-Some-2}

abbrev no_row : Witnessed
no_row = record { edge = edge 0 0; first = record { number = 0; line = 0 } }

pub returns-then-is_none : goal.returns-then-is_none
returns-then-is_none c sources shows =
    let union = c.args.indexed.union.now in
    let distances = c.args.distances.now in
    no_cycle-back union.classes union.dependencies shows.numbered sources shows.witnesses c.args.from c.args.to c.requires.from c.requires.to
    (λ there. no_walk (IsEdge (edges_of union.dependencies)) c.args.to c.args.from (get_or distances c.args.to None)
    c.requires.distances.enough.own (ap (λ o. is_some o) (get_or_default distances c.args.to None c.index-distances-to.result
    (omega (arith, c.requires.to, c.requires.distances.len)) ∙ sym c.index-distances-to.is) ∙ c.if-is_none.ensures))

pub returns-in_default : goal.returns-in_default
returns-in_default c sources shows =
    let union = c.args.indexed.union.now in
    no_cycle-edge union.classes union.dependencies shows.numbered sources shows.witnesses c.args.from c.args.to c.requires.from c.requires.to
    (subst (λ edges. ¬ IsEdge edges c.args.from c.args.to) c.graph.ensures.edges c.in_default.ensures)

pub returns-in_default-2 : goal.returns-in_default-2
returns-in_default-2 c sources shows =
    let union = c.args.indexed.union.now in
    no_cycle-walk union.classes union.dependencies shows.numbered sources shows.witnesses c.args.from c.args.to c.requires.from c.requires.to
    (MatchOption-at_none _ _ c.in_default-2.is c.in_ok-via.ensures)

pub returns : goal.returns
returns c sources shows =
    let union = c.args.indexed.union.now in
    let a = c.args.from in
    let b = c.args.to in
    let what : Dependency = record { from = class_name union.classes a; to = class_name union.classes b } in
    let n = c.in-Some.number in
    let found = subst (λ edges. IsEdgeNumber edges a b n) c.graph.ensures.edges c.in-Some.ensures in
    let at = ap (λ rows. Some (get_or rows n no_row).first) c.dependencies.ensures.same ∙ first_at union.classes union.dependencies shows.numbered
    (dependency_witness sources) shows.witnesses what a b n no_row (c.requires.from, refl) (c.requires.to, refl) found in
    let at_row = found_row union.dependencies a b n found in
    let there : IsEdge (edges_of union.dependencies) a b = edge_of_row union.dependencies a b n no_row at_row.0 (at_row.1 no_row) in
    let none : b ≡ a → c.if-to-from.via ≡ [] = λ same. elim c.if-to-from.branch [
      | then-to-from w ↦ w.via-is ∙ w.new-via.ensures ∙ ap (map (class_name w.classes.result.now)) w.new.ensures.items
      | else-to-from+in_ok-via+in-Some-2 w ↦ absurd (w.if-to-from.false same)
    ] in
    let shown : b ≢ a → IsShown sources (class_name union.classes b) (class_name union.classes a) c.if-to-from.via = λ differs. elim c.if-to-from.branch [
      | then-to-from w ↦ absurd (differs w.if-to-from.true)
      | else-to-from+in_ok-via+in-Some-2 w ↦
          subst (λ via. IsShown sources (class_name union.classes b) (class_name union.classes a) via) (sym w.via-is)
          (MatchOption-at_some _ _ w.in-Some-2.via w.in-Some-2.is w.in_ok-via.ensures sources shows)
    ] in
    cycle-row union.classes union.dependencies shows.numbered sources shows.witnesses a b
    (plain_cycle_row (record { from = c.name.result; to = c.name-2.result; at = (get_or c.dependencies.result.now n no_row).first; via = c.if-to-from.via }))
    c.requires.from c.requires.to there
    (c.name.ensures.name ∙ ap (λ names. class_name names a) c.classes-2.ensures.same) (c.name-2.ensures.name ∙ ap (λ names. class_name names b) c.classes-3.ensures.same) (sym at) none shown
