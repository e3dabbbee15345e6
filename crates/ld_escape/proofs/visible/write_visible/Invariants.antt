-- The bytes so far are written.
use Rattle.std.proofs.Common.{◌≡◌, ◌++◌, flat_map, take}
use Rattle.ld_escape.specs.Visible.{visible_byte}
use Rattle.ld_escape.proofs.visible.write_visible.Given as goal

abbrev pub invariant-loop-byte : goal.invariant-loop-byte
invariant-loop-byte l = l.out.items ≡ l.fn.out.items ++ flat_map (visible_byte l.shown) (take l.byte-index l.text)
