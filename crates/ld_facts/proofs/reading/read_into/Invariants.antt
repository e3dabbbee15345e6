use Rattle.std.proofs.Common.{◌+◌, ◌≤◌, length}
use Rattle.ld_trace.specs.Sources.{plain}
use Rattle.ld_facts.specs.Inner.Scan.{AreMany, StandsOn}
use Rattle.ld_facts.specs.Inner.Reading.{IsReadTo}
use Rattle.ld_facts.proofs.reading.read_into.Given as goal

abbrev pub invariant-loop-said : goal.invariant-loop-said
invariant-loop-said l = record {
  many : AreMany l.scan;
  lines : l.line + length l.rest ≤ l.fn.source.first_line + length l.fn.source.bytes.now;
  counted : l.events + length l.rest ≤ length l.fn.source.bytes.now;
  read : IsReadTo (plain l.fn.source) l.line l.rest l.fn.scan l.scan l.events;
  stands : StandsOn l.fn.scan l.scan;
}

abbrev pub decreases-loop-said : goal.decreases-loop-said
decreases-loop-said l = length l.rest
