-- The bytes so far are written.
use Rattle.std.proofs.Common.{◌≡◌, ◌++◌, map, take}
use Rattle.ld_escape.specs.Visible.{on_line_byte}
use Rattle.ld_escape.proofs.visible.write_on_line.Given as goal

abbrev pub invariant-loop-byte : goal.invariant-loop-byte
invariant-loop-byte l = l.out.items ≡ l.fn.out.items ++ map (on_line_byte l.shown) (take l.byte-index l.name)
