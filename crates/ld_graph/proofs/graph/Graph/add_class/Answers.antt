use Rattle.std.proofs.Common.{◌<◌, ℕ, List, [], ◌∷◌, arith, ap, get_or, length, sym, subst, ◌∙◌}
use Rattle.std.proofs.lemmas.List.{get_or_append_left, length_push}
use Rattle.ld_graph.specs.Edges.{IsEdge}
use Rattle.ld_graph.proofs.NearLemmas.{near_class}
use Rattle.ld_graph.proofs.graph.Graph.add_class.Goals as goal

pub invariant_of-self : goal.invariant_of-self
invariant_of-self c =
    let i = c.self.invariant in
    let now = ap (λ g. g.spare_classes) c.self.view_is in
    let after = ap length c.add_class.ensures.after.lists in
    let before = ap length c.add_class.ensures.before.lists in
    let one = length_push {X = List ℕ} c.self.inside.lists.after.lists [] in
    let two = length_push {X = List ℕ} c.self.inside.lists.before.lists [] in
    record {
      after_classes = omega (arith, after, one, i.after_classes);
      before_classes = omega (arith, before, two, i.before_classes);
      after_items = c.add_class.ensures.after.items ∙ i.after_items;
      before_items = c.add_class.ensures.before.items ∙ i.before_items;
      after_edges = near_class (λ a b. IsEdge c.self.inside.edges.keys a b)
          c.self.inside.lists.after.lists c.add_class.new.self.after.lists c.add_class.ensures.after.lists
          i.after_edges;
      before_edges = near_class (λ a b. IsEdge c.self.inside.edges.keys b a)
          c.self.inside.lists.before.lists c.add_class.new.self.before.lists c.add_class.ensures.before.lists
          i.before_edges;
      ends = λ a b e. let h = i.ends a b e in (omega (arith, h.0), omega (arith, h.1));
      room_edges = i.room_edges;
      room_after = (
        omega (arith, now, c.requires, i.room_after.0, c.add_class.ensures.after.class_room),
        omega (arith, i.room_after.1, c.add_class.ensures.after.item_room),
      );
      room_before = (
        omega (arith, now, c.requires, i.room_before.0, c.add_class.ensures.before.class_room),
        omega (arith, i.room_before.1, c.add_class.ensures.before.item_room),
      );
      room_ranks = omega (arith, now, c.requires, i.room_ranks, c.add_class-2.ensures.room);
      few = omega (arith, now, c.requires, i.few);
      ranked = let r = ap length c.add_class-2.ensures.ranks in
          let p = length_push c.self.inside.ranks.ranks (length c.self.inside.ranks.ranks) in
          omega (arith, r, p, i.ranked);
      rises = λ f x y e.
          let u = i.rises f x y e in let h = i.ends x y e in
          let m = get_or_append_left c.self.inside.ranks.ranks (length c.self.inside.ranks.ranks ∷ []) 0 x (omega (arith, h.0, i.ranked)) in
          let n = get_or_append_left c.self.inside.ranks.ranks (length c.self.inside.ranks.ranks ∷ []) 0 y (omega (arith, h.1, i.ranked)) in
          subst (λ r. get_or r x 0 < get_or r y 0) (sym c.add_class-2.ensures.ranks)
          (omega (arith, u, m, n));
      cycle = i.cycle;
    }
