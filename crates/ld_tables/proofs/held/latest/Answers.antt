use Rattle.std.proofs.Common.{sym, ◌∙◌, arith}
use Rattle.ld_trace.specs.Events.{plain_lock}
use Rattle.ld_tables.proofs.StackLemmas.{removed_at, none_before}
use Rattle.ld_tables.proofs.held.latest.Goals as goal

pub returns-then-is_same-clause-last : goal.returns-then-is_same-clause-last
returns-then-is_same-clause-last c =
    removed_at (plain_lock c.args.lock) c.args.stack.now c.loop-place.place _ (omega arith) c.loop-place.invariant.within (sym c.is_same.ensures ∙ c.if-is_same.true) c.loop-place.invariant.none_after

pub loop-place-preserved : goal.loop-place-preserved
loop-place-preserved c = record {
  within = let within = c.loop-place.invariant.within in omega arith;
  none_after = none_before (plain_lock c.args.lock) c.args.stack.now c.loop-place.place _ (omega arith) c.loop-place.invariant.within
      (sym c.is_same.ensures ∙ c.if-is_same.false) c.loop-place.invariant.none_after;
}
