-- The bytes so far are the name's.
use Rattle.std.proofs.Common.{◌≡◌, ◌≤◌, true, length}
use Rattle.ld_baseline.specs.Match.{is_match, some_end}
use Rattle.ld_baseline.proofs.pattern.at_front.Given as goal

abbrev pub invariant-loop-byte : goal.invariant-loop-byte
invariant-loop-byte l = record {
  same : is_match l.pattern l.name ≡ is_match l.left l.rest;
  later : some_end (is_match l.pattern) l.name ≡ true → some_end (is_match l.left) l.rest ≡ true;
  pattern : length l.left ≤ length l.pattern;
  name : length l.rest ≤ length l.name;
}

abbrev pub decreases-loop-byte : goal.decreases-loop-byte
decreases-loop-byte l = length l.left
