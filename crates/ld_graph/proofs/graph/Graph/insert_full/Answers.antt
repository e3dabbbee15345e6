use Rattle.std.proofs.lemmas.Bool.{true≢false}
use Rattle.std.proofs.lemmas.List.{length_push, length-set}
use Rattle.std.proofs.Common.{rules, ◌≡◌, ◌<◌, ◌++◌, ◌∷◌, [], ◌↔◌, Bool, true, false, arith, length, set, ap}
use Rattle.std.proofs.Common.{refl, sym, subst, ◌∙◌}
use Rattle.std.specs.Prelude.{not}
use Rattle.ld_graph.specs.Edges.{edge, IsEdge}
use Rattle.ld_graph.specs.Lists.{IsNear, list_at}
use Rattle.ld_graph.proofs.EdgeLemmas.{IsEdge-found, IsEdgeNumber-stored, insert_key-known, insert_key-new, IsNear-edge, IsNear-turned}
use Rattle.ld_graph.proofs.EdgeLemmas.{ends_push, IsEdge-missing}
use Rattle.ld_graph.specs.Order.{HasCycle, IsInserted}
use Rattle.ld_graph.specs.Inner.Kept.{graph_of}
use Rattle.ld_graph.proofs.PlacedLemmas.{inserted, made, placed_cycle, placed_length}
use Rattle.ld_graph.proofs.PlacedLemmas.{placed_rises}
use Rattle.ld_graph.proofs.graph.Graph.insert_full.Goals as goal

-- what is added wasn't there, and what isn't was
wasnt_there : (was added : Bool) → added ≡ not was → added ≡ true → was ≡ false
wasnt_there true added is here = absurd (true≢false (sym here ∙ is))
wasnt_there false added is here = refl

was_there : (was added : Bool) → added ≡ not was → added ≡ false → was ≡ true
was_there true added is none = refl
was_there false added is none = absurd (true≢false (sym is ∙ none))

pub invariant_of-self : goal.invariant_of-self
invariant_of-self g c =
    let i = c.self.invariant in
    let keys : c.insert_full.new.self.keys ≡ c.self.inside.edges.keys =
    c.in-Ok.ensures.keys ∙ insert_key-known c.self.inside.edges.keys (edge c.args.a c.args.b) (was_there _ _ c.in-Ok.ensures.added (search rules)) in
    let count = ap length keys in
    let spare = ap (λ g. g.spare_edges) c.self.view_is in
    record {
      after_classes = i.after_classes;
      before_classes = i.before_classes;
      after_items = i.after_items ∙ sym count;
      before_items = i.before_items ∙ sym count;
      after_edges = λ x y. subst (λ k. IsNear c.self.inside.lists.after.lists x y ↔ IsEdge k x y) (sym keys) (i.after_edges x y);
      before_edges = λ x y. subst (λ k. IsNear c.self.inside.lists.before.lists x y ↔ IsEdge k y x) (sym keys) (i.before_edges x y);
      ends = λ x y e. i.ends x y (subst (λ k. IsEdge k x y) keys e);
      room_edges = omega (arith, i.room_edges, c.insert_full.ensures.spare);
      room_after = (i.room_after.0, omega (arith, count, i.room_after.1));
      room_before = (i.room_before.0, omega (arith, count, i.room_before.1));
      room_ranks = i.room_ranks;
      few = i.few;
      ranked = i.ranked;
      rises = λ f x y e. i.rises f x y (subst (λ k. IsEdge k x y) keys e);
      cycle = λ t. subst (λ k. HasCycle (IsEdge k)) (sym keys) (i.cycle t);
    }

pub returns-then-not-added-clause-number : goal.returns-then-not-added-clause-number
returns-then-not-added-clause-number g c =
    let s = c.in-Ok.ensures.stored in IsEdgeNumber-stored _ _ _ _ s.0 c.insert_full.ensures.unique c.in-Ok.ensures.within s.1 s.2

pub returns-then-not-added-clause-there : goal.returns-then-not-added-clause-there
returns-then-not-added-clause-there g c = (
  λ _. subst (λ g. IsEdge g.edges c.args.a c.args.b) c.self.view_is
      (IsEdge-found c.self.inside.edges.keys c.args.a c.args.b (was_there _ _ c.in-Ok.ensures.added (search rules))),
  λ _. refl,
)

pub returns-clause-number : goal.returns-clause-number
returns-clause-number g c =
    let s = c.in-Ok.ensures.stored in IsEdgeNumber-stored _ _ _ _ s.0 c.insert_full.ensures.unique c.in-Ok.ensures.within s.1 s.2

pub invariant_of-self-2 : goal.invariant_of-self-2
invariant_of-self-2 g c =
    let placed = c.place-answer.ensures.placed in
    let i = c.self.invariant in
    let keys : c.insert_full.new.self.keys ≡ c.self.inside.edges.keys ++ edge c.args.a c.args.b ∷ [] =
    c.in-Ok.ensures.keys ∙ insert_key-new c.self.inside.edges.keys (edge c.args.a c.args.b) (wasnt_there _ _ c.in-Ok.ensures.added (search rules)) in
    let count = ap length keys ∙ length_push c.self.inside.edges.keys (edge c.args.a c.args.b) in
    let classes = ap (λ g. g.classes) c.self.view_is in
    let spare = ap (λ g. g.spare_edges) c.self.view_is in
    let after = ap length c.push.ensures.after.lists ∙ length-set c.self.inside.lists.after.lists c.args.a
    (list_at c.self.inside.lists.after.lists c.args.a ++ c.args.b ∷ []) in
    let before = ap length c.push.ensures.before.lists ∙ length-set c.self.inside.lists.before.lists c.args.b
    (list_at c.self.inside.lists.before.lists c.args.b ++ c.args.a ∷ []) in
    let a : c.args.a < c.self.inside.classes = omega (arith, classes, c.requires.a) in
    let b : c.args.b < c.self.inside.classes = omega (arith, classes, c.requires.b) in
    record {
      after_classes = omega (arith, after, i.after_classes);
      before_classes = omega (arith, before, i.before_classes);
      after_items = omega (arith, c.push.ensures.after.items, i.after_items, count);
      before_items = omega (arith, c.push.ensures.before.items, i.before_items, count);
      after_edges = λ x y.
          subst (λ l. IsNear l x y ↔ IsEdge c.insert_full.new.self.keys x y) (sym c.push.ensures.after.lists)
          (subst (λ k. IsNear (set c.self.inside.lists.after.lists c.args.a (list_at
          c.self.inside.lists.after.lists c.args.a ++ c.args.b ∷ [])) x y ↔ IsEdge k x y) (sym keys)
          (IsNear-edge c.self.inside.lists.after.lists c.self.inside.edges.keys c.args.a c.args.b (omega
          (arith, a, i.after_classes)) i.after_edges x y));
      before_edges = λ x y.
          subst (λ l. IsNear l x y ↔ IsEdge c.insert_full.new.self.keys y x) (sym c.push.ensures.before.lists)
          (subst (λ k. IsNear (set c.self.inside.lists.before.lists c.args.b (list_at
          c.self.inside.lists.before.lists c.args.b ++ c.args.a ∷ [])) x y ↔ IsEdge k y x) (sym keys)
          (IsNear-turned c.self.inside.lists.before.lists c.self.inside.edges.keys c.args.a c.args.b
          (omega (arith, b, i.before_classes)) i.before_edges x y));
      ends = λ x y e. ends_push c.self.inside.edges.keys c.args.a c.args.b c.self.inside.classes a b i.ends x y (subst (λ k. IsEdge k x y) keys e);
      room_edges = omega (arith, spare, c.requires.room, i.room_edges, c.insert_full.ensures.spare);
      room_after = (
        omega (arith, i.room_after.0, c.push.ensures.after.class_room),
        omega (arith, count, spare, c.requires.room, i.room_after.1, c.push.ensures.after.item_room),
      );
      room_before = (
        omega (arith, i.room_before.0, c.push.ensures.before.class_room),
        omega (arith, count, spare, c.requires.room, i.room_before.1, c.push.ensures.before.item_room),
      );
      room_ranks = omega (arith, i.room_ranks, c.place-answer.ensures.room);
      few = i.few;
      ranked = placed_length _ i _ _ _ _ c.place-answer.result placed ∙ i.ranked;
      rises = λ f x y e. placed_rises _ i _ _ _ _ c.place-answer.result placed f x y (subst (λ k. IsEdge k x y) keys e);
      cycle = λ t. subst (λ k. HasCycle (IsEdge k)) (sym keys) (placed_cycle _ i _ _ _ _ c.place-answer.result placed t);
    }

pub push-requires-clause-after_fresh : goal.push-requires-clause-after_fresh
push-requires-clause-after_fresh g c = λ n.
    IsEdge-missing c.self.inside.edges.keys c.args.a c.args.b (wasnt_there _ _ c.in-Ok.ensures.added (search rules)) ((c.self.invariant.after_edges c.args.a c.args.b).0 n)

pub push-requires-clause-before_fresh : goal.push-requires-clause-before_fresh
push-requires-clause-before_fresh g c = λ n.
    IsEdge-missing c.self.inside.edges.keys c.args.a c.args.b (wasnt_there _ _ c.in-Ok.ensures.added (search rules)) ((c.self.invariant.before_edges c.args.b c.args.a).0 n)

pub place-answer-requires-clause-turned : goal.place-answer-requires-clause-turned
place-answer-requires-clause-turned g c = λ x y.
    let i = c.self.invariant in (
      λ n. (i.before_edges y x).1 ((i.after_edges x y).0 n),
      λ n. (i.after_edges x y).1 ((i.before_edges y x).0 n),
    )

pub place-answer-requires-clause-ends : goal.place-answer-requires-clause-ends
place-answer-requires-clause-ends g c = λ x y n.
    let i = c.self.invariant in
    let e = i.ends x y ((i.after_edges x y).0 n) in
    (omega (arith, e, i.ranked), omega (arith, e, i.ranked))

pub place-answer-requires-clause-rises : goal.place-answer-requires-clause-rises
place-answer-requires-clause-rises g c = λ f x y n.
    let i = c.self.invariant in i.rises f x y ((i.after_edges x y).0 n)

pub returns-clause-inserted : goal.returns-clause-inserted
returns-clause-inserted g c _ =
    let placed = c.place-answer.ensures.placed in
    let keys : c.insert_full.new.self.keys ≡ c.self.inside.edges.keys ++ edge c.args.a c.args.b ∷ [] =
    c.in-Ok.ensures.keys ∙ insert_key-new c.self.inside.edges.keys (edge c.args.a c.args.b) (wasnt_there _ _ c.in-Ok.ensures.added (search rules)) in
    subst (λ g. IsInserted g c.args.a c.args.b c.place-answer.result (record (made c.self.inside
    c.self.invariant c.args.a c.args.b c.place-answer.new.has_cycle
    c.place-answer.new.ranks.ranks) { edges = c.insert_full.new.self.keys })) c.self.view_is
    (subst (λ k. IsInserted (graph_of c.self.inside) c.args.a c.args.b c.place-answer.result (record
    (made c.self.inside c.self.invariant c.args.a c.args.b c.place-answer.new.has_cycle
    c.place-answer.new.ranks.ranks) { edges = k })) (sym keys)
    (inserted c.self.inside c.self.invariant c.args.a c.args.b c.place-answer.new.has_cycle
    c.place-answer.new.ranks.ranks c.place-answer.result placed
    (IsEdge-missing c.self.inside.edges.keys c.args.a c.args.b (wasnt_there _ _ c.in-Ok.ensures.added (search rules)))))
