-- The lines before the last trace, and its own, are all.
use Rattle.std.proofs.Common.{ap, arith, length, sym}
use Rattle.std.proofs.lemmas.List.Sums.{count_by-le-length}
use Rattle.ld_trace.specs.Inner.Splitting.{is_lf}
use Rattle.ld_pieces.proofs.PieceLemmas.{counted-last}
use Rattle.ld_pieces.proofs.pieces.count_come.Goals as goal

pub returns-in_default-clause-few : goal.returns-in_default-clause-few
returns-in_default-clause-few c =
    omega (arith, c.count_lines.ensures.few, ap length c.deref.ensures.value, ap length c.in_ok-all.ensures, c.requires.few)

pub overflow_add-result : goal.overflow_add-result
overflow_add-result c =
    let all = counted-last c.args.came.now c.args.traces.now c.in-Some.last.now c.requires.cut c.requires.whole (sym c.in-Some.ensures.value) in
    record { fits = omega (arith, all.0, c.count_lines-2.ensures.count, count_by-le-length is_lf c.args.came.now, c.requires.few) }

pub overflow_sub-result : goal.overflow_sub-result
overflow_sub-result c =
    let all = counted-last c.args.came.now c.args.traces.now c.in-Some.last.now c.requires.cut c.requires.whole (sym c.in-Some.ensures.value) in
    omega (arith, all.1)

pub returns-clause-lines : goal.returns-clause-lines
returns-clause-lines c =
    let all = counted-last c.args.came.now c.args.traces.now c.in-Some.last.now c.requires.cut c.requires.whole (sym c.in-Some.ensures.value) in
    omega (arith, all.0, c.count_lines-2.ensures.count)

pub returns-clause-few : goal.returns-clause-few
returns-clause-few c =
    let all = counted-last c.args.came.now c.args.traces.now c.in-Some.last.now c.requires.cut c.requires.whole (sym c.in-Some.ensures.value) in
    omega (arith, all.0, c.count_lines-2.ensures.count, count_by-le-length is_lf c.args.came.now, c.requires.few)
