-- The edge with the numbers of both classes has the least line.
use Rattle.std.proofs.Common.{rules, ◌≡◌, ◌∙◌, None, arith, get_or, refl, sym}
use Rattle.ld_occurrences.specs.Named.{plain_dependency}
use Rattle.ld_occurrences.proofs.FirstLemmas.{line-no_from, line-no_to, line-none, line-one, no_edge}
use Rattle.ld_occurrences.proofs.rows.first_line.Goals as goal

pub returns-in_err-from : goal.returns-in_err-from
returns-in_err-from c =
    let none : c.from_residual.result ≡ None = search rules in
    let was : c.find.result ≡ None = search rules in
    none
    ∙ sym (line-no_from c.args.facts.now c.requires c.classes-classes.result.now c.classes-classes.ensures c.args.facts.now.edges refl
    (plain_dependency c.args.what) c.find.result was c.find.ensures.exact)

pub returns-in_err-to : goal.returns-in_err-to
returns-in_err-to c =
    let none : c.from_residual-in_err-to.result ≡ None = search rules in
    let was : c.find-2.result ≡ None = search rules in
    none
    ∙ sym (line-no_to c.args.facts.now c.requires c.classes-classes.result.now c.classes-classes.ensures c.args.facts.now.edges refl
    (plain_dependency c.args.what) c.find-2.result was c.find-2.ensures.exact)

pub returns-then-edge-to : goal.returns-then-edge-to
returns-then-edge-to c =
    let edges = c.edges-edges.result.now in
    let i = c.loop-edge.edge-index in
    let is_from : c.in_ok-from.from ≡ (get_or c.edges-edges.result.now c.loop-edge.edge-index no_edge).from = search rules in
    let is_to : c.in_ok-to.to ≡ (get_or c.edges-edges.result.now c.loop-edge.edge-index no_edge).to = search rules in
    sym (line-one c.args.facts.now c.requires c.classes-classes.result.now c.classes-classes.ensures edges c.edges-edges.ensures
    (plain_dependency c.args.what) c.find.result c.in_ok-from.from c.in_ok-from.was c.find.ensures.exact c.find-2.result c.in_ok-to.to c.in_ok-to.was
    c.find-2.ensures.exact i c.loop-edge-test.true is_from is_to)

pub returns : goal.returns
returns c =
    sym (line-none c.args.facts.now c.requires c.classes-classes.result.now c.classes-classes.ensures c.edges-edges.result.now c.edges-edges.ensures
    (plain_dependency c.args.what) c.find.result c.in_ok-from.from c.in_ok-from.was c.find.ensures.exact c.find-2.result c.in_ok-to.to c.in_ok-to.was
    c.find-2.ensures.exact (λ k inside. c.loop-edge.invariant k (omega (arith, inside, c.loop-edge-test.false))))
