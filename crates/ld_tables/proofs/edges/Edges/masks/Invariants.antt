use Rattle.std.proofs.Common.{◌≡◌, ◌<◌, ◌≤◌, length, map, take}
use Rattle.ld_tables.specs.Inner.Edges.{AreMasks, AreMore}
use Rattle.ld_tables.proofs.edges.Edges.masks.Given as goal

abbrev pub invariant-loop-held : goal.invariant-loop-held
invariant-loop-held l = record {
  tellings : l.self.tellings ≡ l.fn.self.tellings;
  more : AreMore l.fn.self.words l.self.words;
  are : AreMasks l.self.words l.class (map (λ held. held.class) (take l.held-index l.stack)) l.masks.items;
  few : length l.masks.items ≤ l.held-index;
  some : 0 < l.held-index → 0 < length l.masks.items;
}
