use Rattle.std.proofs.Common.{arith}
use Rattle.ld_io.proofs.Transfers.{appends_more}
use Rattle.ld_io.proofs.transfer.send.Goals as goal

pub writes-preserved : goal.writes-preserved
writes-preserved g c = record {
  within = omega (arith, c.in_ok-count.ensures.within);
  written = appends_more _ _ _ _ _ _ c.writes.invariant.written c.in_ok-count.ensures.bytes;
  sound = grind arith;
}
