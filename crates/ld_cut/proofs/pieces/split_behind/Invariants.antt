-- What is left stands behind as many lines as were passed.
use Rattle.std.proofs.Common.{◌≡◌}
use Rattle.ld_cut.specs.Pieces.{behind_lines}
use Rattle.ld_cut.proofs.pieces.split_behind.Given as goal

abbrev pub invariant-loop : goal.invariant-loop
invariant-loop l = l.rest ≡ behind_lines l.counter l.bytes
