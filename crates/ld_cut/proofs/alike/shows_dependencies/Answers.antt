-- A dependency is there, where its row's is.
use Rattle.std.proofs.Common.{◌≡◌, ◌∙◌, ◌<◌, ◌≤◌, ◌+◌, ℕ, List, All, IsSome, true, length, take, get_or, ap, sym, subst, arith}
use Rattle.std.specs.Prelude.{is_some}
use Rattle.std.proofs.lemmas.List.{take_all, take_more}
use Rattle.std.proofs.lemmas.List.Elements.{All-push}
use Rattle.ld_class.specs.Names.{PlainClass, no_class, plain_class}
use Rattle.ld_rules.specs.Union.{dependency_witness, union_classes}
use Rattle.ld_reduce.specs.OfBook.Dependencies.{class_at, dependency_at}
use Rattle.ld_reduce.specs.OfBook.OfUnion.declared.dependencies.Witnessed.{Witnessed}
use Rattle.ld_cut.proofs.ShowsLemmas.{ShowsRows, dependencies-shown}
use Rattle.ld_cut.proofs.alike.shows_dependencies.Goals as goal

pub loop-row-preserved : goal.loop-row-preserved
loop-row-preserved c =
    let book = c.args.book.now in
    let other = c.args.other.now in
    let rows = c.dependencies-row-items.result.now in
    let i = c.loop-row.row-index in
    let none : Witnessed = record { edge = record { from = 0; to = 0 }; first = record { number = 0; line = 0 } } in
    let row : Witnessed = get_or rows i none in
    let from_is : plain_class c.name-from.result ≡ class_at other row.edge.from = c.name-from.ensures.name ∙ ap (λ (cs : List PlainClass). get_or cs row.edge.from no_class) c.classes-classes.ensures.all in
    let to_is : plain_class c.name-to.result ≡ class_at other row.edge.to = c.name-to.ensures.name ∙ ap (λ (cs : List PlainClass). get_or cs row.edge.to no_class) c.classes-classes.ensures.all in
    let witness : c.edge.result ≡ dependency_witness book (dependency_at other row.edge) =
    c.edge.ensures ∙ (λ j. dependency_witness book (record { from = from_is j; to = to_is j })) in
    let some : is_some c.edge.result ≡ true = c.if-is_none.ensures in
    let here : IsSome (dependency_witness book (dependency_at other row.edge)) = ap is_some (sym witness) ∙ some in
    subst (ShowsRows book other) (sym (take_more rows i none c.loop-row-test.true))
    (All-push (λ (r : Witnessed). IsSome (dependency_witness book (dependency_at other r.edge))) (take i rows) row c.loop-row.invariant here)

pub returns : goal.returns
returns c =
    let rows = c.dependencies-row-items.result.now in
    let over = c.loop-row-test.false in
    let all : take c.loop-row.row-index rows ≡ rows = take_all c.loop-row.row-index rows (omega arith) in
    dependencies-shown c.args.book.now c.args.other.now rows c.dependencies-row-items.ensures (subst (ShowsRows c.args.book.now c.args.other.now) all c.loop-row.invariant)
