-- One vector more.
use Rattle.std.proofs.Common.{◌+◌, arith, take}
use Rattle.std.proofs.lemmas.List.{length-take}
use Rattle.std.proofs.lemmas.List.Sums.{count_by-le-length}
use Rattle.ld_trace.specs.Inner.Splitting.{is_lf}
use Rattle.ld_trace.proofs.QuietLemmas.{AreMasks, ends-more, quiet-more}
use Rattle.ld_trace.proofs.others.quiet_front.Goals as goal

masks : (c : goal.Else-here-starts-ne0) → AreMasks c.args.bytes.now c.loop-len.len c.line_ends-here.result c.header_starts-starts.result
masks c = record { room = omega arith; of_ends = c.line_ends-here.ensures; of_starts = c.header_starts-starts.ensures }

pub overflow_add-ends : goal.overflow_add-ends
overflow_add-ends c =
    let front = take (c.loop-len.len + 32) c.args.bytes.now in
    record { fits = omega (arith, ends-more _ _ _ _ (masks c), count_by-le-length is_lf front, length-take (c.loop-len.len + 32) c.args.bytes.now) }

pub loop-len-preserved : goal.loop-len-preserved
loop-len-preserved c = record {
  within = omega arith;
  quiet = quiet-more _ _ _ _ (masks c) c.if-here-starts-ne0.false c.loop-len.invariant.quiet;
  ends = omega (arith, ends-more _ _ _ _ (masks c), c.loop-len.invariant.ends);
}
