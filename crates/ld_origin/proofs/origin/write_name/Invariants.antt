-- The bytes so far are written.
use Rattle.std.specs.Prelude.{◌≡◌, ◌++◌, take}
use Rattle.ld_origin.specs.Origin.{spelled}
use Rattle.ld_origin.proofs.origin.write_name.Given as goal

abbrev pub invariant-loop-byte : goal.invariant-loop-byte
invariant-loop-byte l = l.text.items ≡ l.fn.text.items ++ spelled (take l.byte-index l.name)
