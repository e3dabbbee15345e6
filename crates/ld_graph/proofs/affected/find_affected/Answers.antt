use Rattle.std.proofs.Common.{arith, length, ◌∙◌}
use Rattle.ld_graph.proofs.AffectedLemmas.{found-less}
use Rattle.ld_graph.proofs.affected.find_affected.Goals as goal

pub returns-in_default-clause-ended : goal.returns-in_default-clause-ended
returns-in_default-clause-ended g c = (
  found-less c.expand.ensures.found (length c.expand.new.search.found) c.in_default.ensures.next,
  found-less c.loop-read_backward.invariant.forward 0 (omega arith),
)

pub loop-read_backward-preserved-then-read_backward-read_forward : goal.loop-read_backward-preserved-then-read_backward-read_forward
loop-read_backward-preserved-then-read_backward-read_forward g c =
    let i = c.loop-read_backward.invariant in
    record {
      backward_size = c.expand.ensures.size ∙ i.backward_size;
      forward_size = i.forward_size;
      steps = omega (arith, c.in-Some.ensures.count, i.steps);
      backward_waits = c.in-Some.ensures.next.0;
      forward_waits = i.forward_waits;
      backward_most = c.expand.ensures.most;
      forward_most = i.forward_most;
      backward_first = c.expand.ensures.first ∙ i.backward_first;
      forward_first = i.forward_first;
      backward_near = c.in-Some.ensures.next.1;
      forward_near = i.forward_near;
      backward = c.expand.ensures.found;
      forward = i.forward;
    }

pub returns-in_default-expand-clause-ended : goal.returns-in_default-expand-clause-ended
returns-in_default-expand-clause-ended g c = (
  found-less c.expand-else-read_backward-read_forward.ensures.found (length c.expand-else-read_backward-read_forward.new.search.found) c.in_default-expand.ensures.next,
  found-less c.loop-read_backward.invariant.backward 0 (omega arith),
)

pub loop-read_backward-preserved : goal.loop-read_backward-preserved
loop-read_backward-preserved g c =
    let i = c.loop-read_backward.invariant in
    record {
      forward_size = c.expand-else-read_backward-read_forward.ensures.size ∙ i.forward_size;
      backward_size = i.backward_size;
      steps = omega (arith, c.in-Some-expand.ensures.count, i.steps);
      forward_waits = c.in-Some-expand.ensures.next.0;
      backward_waits = i.backward_waits;
      forward_most = c.expand-else-read_backward-read_forward.ensures.most;
      backward_most = i.backward_most;
      forward_first = c.expand-else-read_backward-read_forward.ensures.first ∙ i.forward_first;
      backward_first = i.backward_first;
      forward_near = c.in-Some-expand.ensures.next.1;
      backward_near = i.backward_near;
      forward = c.expand-else-read_backward-read_forward.ensures.found;
      backward = i.backward;
    }
