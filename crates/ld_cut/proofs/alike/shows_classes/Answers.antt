-- A class is there with its bits, where its row shows them.
use Rattle.std.proofs.Common.{◌≡◌, ◌∙◌, ◌<◌, ◌+◌, ℕ, List, [], length, map, get_or, Some, ap, sym, arith, below_more}
use Rattle.std.proofs.Math.ListN.{get_or-map}
use Rattle.std.proofs.lemmas.List.{get_or_default, length-map}
use Rattle.ld_class.specs.Names.{PlainClass, no_class, plain_class}
use Rattle.ld_rules.specs.Union.{union_classes}
use Rattle.ld_reduce.specs.OfBook.Dependencies.{usage_of_class}
use Rattle.ld_reduce.specs.OfBook.OfUnion.Usage.{usage_row}
use Rattle.ld_reduce.specs.OfBook.OfUnion.declared.usage.UsageRow.{UsageRow}
use Rattle.ld_cut.specs.Inner.Shows.{ShowsClass}
use Rattle.ld_cut.proofs.ShowsLemmas.{ShowsBelow, classes-shown, shows-class, uses-shown}
use Rattle.ld_cut.proofs.alike.shows_classes.Goals as goal

pub loop-id-preserved : goal.loop-id-preserved
loop-id-preserved c =
    let book = c.args.book.now in
    let other = c.args.other.now in
    let id = c.loop-id.id in
    let classes = union_classes other in
    let class : PlainClass = get_or classes id no_class in
    let none : UsageRow = record { bits = record { 0 = 0 }; first = [] } in
    let low : id < length classes = omega (arith, ap length c.classes-classes.ensures.all) in
    let named : plain_class c.name.result ≡ class = c.name.ensures.name ∙ ap (λ (cs : List PlainClass). get_or cs id no_class) c.classes-classes.ensures.all in
    let has : usage_row book class ≡ Some c.in-Some.row = ap (usage_row book) (sym named) ∙ sym c.usage.ensures ∙ c.in-Some.is in
    let mapped = length-map classes (usage_of_class other) in
    let is : get_or c.usage_rows-rows.result.now id none ≡ usage_of_class other class =
    ap (λ (rows : List UsageRow). get_or rows id none) c.usage_rows-rows.ensures
    ∙ get_or_default (map (usage_of_class other) classes) id none (usage_of_class other no_class) (omega arith)
    ∙ get_or-map (usage_of_class other) classes id no_class in
    below_more (λ k. ShowsClass book other (get_or classes k no_class)) id c.loop-id.invariant
    (shows-class book other class c.in-Some.row (get_or c.usage_rows-rows.result.now id none) has is c.if-not-shown.ensures)

pub returns-clause-classes : goal.returns-clause-classes
returns-clause-classes c =
    let all : ShowsBelow c.args.book.now c.args.other.now (length (union_classes c.args.other.now)) =
    λ k low. c.loop-id.invariant k (omega (arith, ap length c.classes-classes.ensures.all)) in
    classes-shown c.args.book.now c.args.other.now all

pub returns-clause-uses : goal.returns-clause-uses
returns-clause-uses c =
    let all : ShowsBelow c.args.book.now c.args.other.now (length (union_classes c.args.other.now)) =
    λ k low. c.loop-id.invariant k (omega (arith, ap length c.classes-classes.ensures.all)) in
    uses-shown c.args.book.now c.args.other.now all c.classes-classes.ensures.used
