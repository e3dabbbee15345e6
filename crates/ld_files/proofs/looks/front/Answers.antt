-- A line that isn't longer is shown whole.
use Rattle.std.proofs.Common.{◌≤◌, length, arith, sym}
use Rattle.std.proofs.lemmas.List.{length-take-le, take_all}
use Rattle.ld_files.proofs.looks.front.Goals as goal

pub slice_bounds-result-end : goal.slice_bounds-result-end
slice_bounds-result-end c =
    let within : 80 ≤ length c.args.line.now = omega (arith, c.if-line-gt-MOST_SHOWN.true) in
    omega (arith, c.if-line-gt-MOST_SHOWN.true, length-take-le 80 c.args.line.now within)

pub returns-else-line-gt-MOST_SHOWN : goal.returns-else-line-gt-MOST_SHOWN
returns-else-line-gt-MOST_SHOWN c = sym (take_all 80 c.args.line.now (omega (arith, c.if-line-gt-MOST_SHOWN.false)))
