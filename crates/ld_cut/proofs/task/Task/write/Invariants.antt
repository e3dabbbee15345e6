-- The lines so far are written.
use Rattle.std.proofs.Common.{◌≡◌, ◌++◌, ℕ, List, flat_map, map, take}
use Rattle.ld_cut.specs.Inner.Arounds.{kept_around}
use Rattle.ld_cut.specs.Inner.Kept.{of_around, text_of_kept}
use Rattle.ld_cut.proofs.task.Task.write.Given as goal

abbrev pub invariant-loop-around : goal.invariant-loop-around
invariant-loop-around l = (name : List ℕ) → l.text.items ≡ l.fn.text.items ++ text_of_kept (flat_map (of_around name) (map kept_around (take l.around-index l.around-items)))
