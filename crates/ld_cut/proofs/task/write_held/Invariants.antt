-- The lines so far are written.
use Rattle.std.proofs.Common.{◌≡◌, ◌++◌, ℕ, List, map, take}
use Rattle.ld_cut.specs.Inner.Kept.{kept_hold, of_hold, text_of_kept}
use Rattle.ld_cut.proofs.task.write_held.Given as goal

abbrev pub invariant-loop-hold : goal.invariant-loop-hold
invariant-loop-hold l = (name : List ℕ) → l.text.items ≡ l.fn.text.items ++ text_of_kept (map (of_hold name) (map kept_hold (take l.hold-index l.held)))
