use Rattle.std.proofs.Common.{◌≡◌, fold, length, map, take}
use Rattle.ld_tables.specs.Inner.Edges.{classes_of, edge_to, edges_of, with_edge_fact}
use Rattle.ld_tables.proofs.edges.Edges.tell.Given as goal

abbrev pub invariant-loop-mask : goal.invariant-loop-mask
invariant-loop-mask l = record {
  words : l.self.words ≡ l.fn.self.words;
  first : take (length l.fn.self.tellings) l.self.tellings ≡ l.fn.self.tellings;
  told : edges_of l.self.tellings ≡ fold with_edge_fact (edges_of l.fn.self.tellings) (map (edge_to l.class l.line) (classes_of l.fn.self.words (take l.mask-index l.masks)));
}
