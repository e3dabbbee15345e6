use Rattle.std.proofs.Common.{◌≡◌, ℕ, ◌<◌, length}
use Rattle.ld_union.specs.Inner.ByName.{class_at, place_of_class}
use Rattle.ld_union.proofs.by_name.places_of.Given as goal

abbrev pub invariant-loop-place : goal.invariant-loop-place
invariant-loop-place l = record {
  len : length l.places.items ≡ length l.fn.classes;
  each : (i : ℕ) → i < l.place → place_of_class l.places.items (class_at l.numbers i) ≡ i;
}
