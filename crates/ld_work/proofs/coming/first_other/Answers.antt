use Rattle.std.proofs.Common.{arith, map}
use Rattle.std.specs.List.{Contains}
use Rattle.ld_trace.specs.Sources.{plain}
use Rattle.ld_work.proofs.SeenLemmas.{among-more, among-whole}
use Rattle.ld_work.proofs.coming.first_other.Goals as goal

pub loop-trace-preserved : goal.loop-trace-preserved
loop-trace-preserved c =
    among-more c.args.listed.now (Contains (map plain c.args.sources.now)) c.loop-trace.trace-index _ (omega arith) c.loop-trace.invariant
    (c.stands_in.ensures c.if-not-stands_in.false)

pub returns : goal.returns
returns c =
    among-whole c.args.listed.now (Contains (map plain c.args.sources.now)) c.loop-trace.trace-index (omega (arith, c.loop-trace-test.false)) c.loop-trace.invariant
