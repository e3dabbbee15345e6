-- Of the processors so far.
use Rattle.std.proofs.Common.{ℕ, ◌≡◌, ◌<◌, None, get_or, length}
use Rattle.ld_pages.specs.declared.events.Events.{Events}
use Rattle.ld_merge.specs.declared.head.Head.{Head}
use Rattle.ld_merge.specs.Heads.{IsHead, IsOf}
use Rattle.ld_merge.proofs.head.heads_of.Given as goal

abbrev pub invariant-sources : goal.invariant-sources
invariant-sources l = record {
  count : length l.heads.items ≡ l.processor;
  each : (k : ℕ) (d : Head) → k < l.processor → (e : Events) → IsOf (get_or l.sources k e) (get_or l.heads.items k d);
  heads : (k : ℕ) (d : Head) → k < l.processor → IsHead None k (get_or l.heads.items k d);
}
