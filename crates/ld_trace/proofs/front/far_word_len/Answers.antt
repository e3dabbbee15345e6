-- The lowest bit that is set is where the run ends.
use Rattle.std.proofs.Common.{◌≡◌, ap, ◌∙◌, arith, rules}
use Rattle.std.proofs.lemmas.List.Sums.{prefix_len-le-length}
use Rattle.std.proofs.lemmas.Simd.{length-chunk}
use Rattle.std.specs.Char.{is_ascii_graphic}
use Rattle.std.specs.List.{prefix_len}
use Rattle.ld_trace.proofs.VectorLemmas.{run-ends}
use Rattle.ld_trace.proofs.front.far_word_len.Goals as goal
use lib.Count.{count_trailing_zeros}

pub returns-then-outside-ne0 : goal.returns-then-outside-ne0
returns-then-outside-ne0 c =
    let bytes = c.args.bytes.now in
    let outside = c.outside_words-outside in
    let run : count_trailing_zeros 64 outside.result ≡ prefix_len is_ascii_graphic bytes =
    ap (count_trailing_zeros 64) outside.ensures ∙ run-ends is_ascii_graphic bytes 32 (omega arith) (length-chunk 0 32 bytes (search rules)) (omega (arith, outside.ensures)) in
    record { front = run; within = omega (arith, run, prefix_len-le-length is_ascii_graphic bytes) }
