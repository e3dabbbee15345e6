-- The lowest bit that is set is where the run ends.
use Rattle.std.proofs.Common.{◌≡◌, ap, ◌∙◌, arith}
use Rattle.std.proofs.lemmas.List.{length-take-le}
use Rattle.std.proofs.lemmas.List.Sums.{prefix_len-le-length}
use Rattle.ld_trace.specs.Inner.Front.{in_name}
use Rattle.std.specs.List.{prefix_len}
use Rattle.ld_trace.proofs.VectorLemmas.{run-ends}
use Rattle.ld_trace.proofs.front.name_len.Goals as goal
use lib.Count.{count_trailing_zeros}

pub returns-then-ends-ne0 : goal.returns-then-ends-ne0
returns-then-ends-ne0 c =
    let bytes = c.args.bytes.now in
    let ends = c.args.ends in
    let are = c.requires in
    let run : count_trailing_zeros 64 ends.names ≡ prefix_len in_name bytes =
    ap (count_trailing_zeros 64) are.names
    ∙ run-ends in_name bytes ends.seen (omega (arith, are.few)) (length-take-le ends.seen bytes are.within) (omega (arith, are.names)) in
    record { front = run; within = omega (arith, run, prefix_len-le-length in_name bytes) }
