-- One vector more.
use Rattle.std.proofs.Common.{◌+◌, arith, take}
use Rattle.std.proofs.lemmas.List.{length-take}
use Rattle.std.proofs.lemmas.List.Sums.{count_by-le-length}
use Rattle.ld_files.specs.Streams.{is_lf}
use Rattle.ld_files.proofs.LineLemmas.{ends-more}
use Rattle.ld_files.proofs.lines.whole_vectors.Goals as goal

pub overflow_add-ends : goal.overflow_add-ends
overflow_add-ends c =
    let bytes = c.args.bytes.now in
    let len = c.loop-len.len in
    record { fits = omega (arith, ends-more bytes len c.line_ends.result c.line_ends.ensures, count_by-le-length is_lf (take (len + 32) bytes), length-take (len + 32) bytes) }

pub loop-len-preserved : goal.loop-len-preserved
loop-len-preserved c = record {
  within = omega arith;
  ends = omega (arith, ends-more c.args.bytes.now c.loop-len.len c.line_ends.result c.line_ends.ensures, c.loop-len.invariant.ends);
}
