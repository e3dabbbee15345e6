-- Each bit so far is there.
use Rattle.std.proofs.Common.{ℕ, ◌<◌, get_or, None, IsSome}
use Rattle.ld_cut.proofs.alike.shows_bits.Given as goal

abbrev pub invariant-loop-i : goal.invariant-loop-i
invariant-loop-i l = (k : ℕ) → k < l.i → IsSome (get_or l.other.first k None) → IsSome (get_or l.row.first k None)
