use Rattle.std.proofs.Common.{◌∷◌, [], ap, arith, cond, is_none, length, None, Option, ℕ}
use Rattle.std.proofs.lemmas.List.{length_push}
use Rattle.std.proofs.lemmas.List.Sums.{sum_by-append}
use Rattle.ld_graph.specs.Inner.Sources.{Sourced}
use Rattle.ld_graph.proofs.ReachLemmas.{AreReached-added}
use Rattle.ld_graph.proofs.sources.Sources.add_class.Goals as goal

pub invariant_of-self : goal.invariant_of-self
invariant_of-self c =
    let i = c.self.invariant in
    let len = ap (λ (s : Sourced). length s.each) c.self.view_is in
    let room = ap (λ (s : Sourced). s.room) c.self.view_is in
    let none = sum_by-append (λ (o : Option ℕ). cond {A = ℕ} (is_none o) 1 0) c.self.inside.each.items (None ∷ []) in
    let more = c.push_reserved.ensures.len in
    record {
      listed = rw (c.push_reserved.ensures.items) (AreReached-added c.self.inside.each.items c.self.inside.reached.items i.listed);
      each_once = rw (c.push_reserved.ensures.items) (omega (arith, i.each_once, none, length_push c.self.inside.each.items None));
      within = omega (arith, c.requires, len, room, more, ap length c.push_reserved.ensures.items);
      room_each = omega (arith, i.room_each, c.push_reserved.ensures.capacity);
      room_reached = i.room_reached;
    }
