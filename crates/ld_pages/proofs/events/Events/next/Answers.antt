-- Each step is one of the rules of `Reads`.
use Rattle.std.proofs.Common.{[], ◌∷◌, Some, arith, sym}
use Rattle.ld_pages.specs.Reads.{ended, wrong, goes, gives}
use Rattle.ld_pages.proofs.events.Events.next.Goals as goal

pub returns-in-Ended : goal.returns-in-Ended
returns-in-Ended c = record {
  pages = record {
    at_end = ended (sym c.in-Ended.ensures.step);
    rest = λ is f rest. c.steps.invariant.reads is f rest;
  };
}

pub returns-in-Wrong : goal.returns-in-Wrong
returns-in-Wrong c = record {
  pages = c.steps.invariant.reads [] (Some c.in-Wrong.fault) (wrong (sym c.in-Wrong.ensures.step));
}

pub steps-preserved : goal.steps-preserved
steps-preserved c = record {
  bytes = c.steps.invariant.bytes;
  later = omega (arith, c.in-Goes.ensures.advances.later, c.steps.invariant.later);
  reads = λ is f rest. c.steps.invariant.reads is f (goes (sym c.in-Goes.ensures.step) rest);
}

pub returns-in-Gives : goal.returns-in-Gives
returns-in-Gives c = record {
  pages = record {
    first = λ is f rest. c.steps.invariant.reads (c.in-Gives.item ∷ is) f (gives (sym c.in-Gives.ensures.step) rest);
    inside = c.in-Gives.ensures.advances.1;
    timed = c.in-Gives.ensures.advances.2;
    later = omega (arith, c.in-Gives.ensures.advances.0.later, c.steps.invariant.later);
    bytes = c.steps.invariant.bytes;
  };
}
