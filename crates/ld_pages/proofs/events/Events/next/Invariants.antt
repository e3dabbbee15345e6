-- What is left gives what was left, and the pages go on.
use Rattle.std.proofs.Common.{◌≡◌, ◌-◌, ◌≤◌, List, Option, length}
use Rattle.ld_pages.specs.declared.cursor.Fault.{Fault}
use Rattle.ld_pages.specs.declared.cursor.Item.{Item}
use Rattle.ld_pages.specs.Reads.{Reads}
use Rattle.ld_pages.proofs.events.Events.next.Given as goal

abbrev pub invariant-steps : goal.invariant-steps
invariant-steps l = record {
  bytes : l.self.bytes.now ≡ l.fn.self.bytes.now;
  later : l.fn.self.cursor.time ≤ l.self.cursor.time;
  reads : (is : List Item) (f : Option Fault) → Reads l.self.layout l.self.bytes.now l.self.cursor is f → Reads l.fn.self.layout l.fn.self.bytes.now l.fn.self.cursor is f;
}

abbrev pub decreases-steps : goal.decreases-steps
decreases-steps l = length l.self.bytes.now - l.self.cursor.position
