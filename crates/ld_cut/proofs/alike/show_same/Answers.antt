-- Each shows what the other does.
use Rattle.std.proofs.Common.{◌≡◌, ◌≤◌, Bool, true, false, ap, arith}
use Rattle.std.specs.Bool.{OnTrue}
use Rattle.ld_reduce.specs.OfBook.Totals.{refused_count}
use Rattle.ld_reduce.specs.OfBook.declared.listing.Totals.{Totals}
use Rattle.ld_cut.proofs.ShowsLemmas.{alike-is}
use Rattle.ld_cut.proofs.alike.show_same.Goals as goal

where_true : {P Q : Type 0} (b : Bool) → OnTrue b P → (P → Q) → OnTrue b Q
where_true true h f = f h
where_true false h f = h

pub returns : goal.returns
returns c =
    let one = c.args.one.now in
    let many = c.args.many.now in
    let first = ap (λ (t : Totals). t.refused) c.totals.ensures.totals in
    let second = ap (λ (t : Totals). t.refused) c.totals-2.ensures.totals in
    let read : refused_count one ≡ 0 = omega (arith, first, c.if-totals-gt0.false) in
    let others_read : refused_count many ≡ 0 = omega (arith, second, c.if-totals-gt0-2.false) in
    where_true c.shows_dependencies.result c.shows_dependencies.ensures
    (λ dependencies. alike-is one many read others_read c.listed.ensures.fit c.if-not-shown.ensures.classes c.if-not-shown-2.ensures.classes c.if-not-shown.ensures.uses c.if-not-shown-2.ensures.uses c.if-not-shown-3.ensures dependencies)
