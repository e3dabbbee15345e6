use Rattle.std.proofs.Common.{arith, ap, refl, length}
use Rattle.ld_graph.specs.declared.graph.Graph.TheInside.{Inside}
use Rattle.ld_graph.specs.Inner.Kept.{IsKept}
use Rattle.ld_graph.proofs.KeptLemmas.{IsKept-grown, IsKept-spare}
use Rattle.ld_graph.proofs.NearLemmas.{lists_same}
use Rattle.ld_graph.proofs.graph.Graph.room.Goals as goal

pub invariant_of-self : goal.invariant_of-self
invariant_of-self c = IsKept-grown c.self.inside _ (record {
  keys = c.reserve.ensures.keys;
  edges = c.reserve.ensures.room.0;
  after = lists_same c.self.inside.lists.after;
  before = lists_same c.self.inside.lists.before;
  ranks = refl;
  ranks_room = omega arith;
  rest = refl;
}) c.self.invariant

pub invariant_of-self-in_err-room : goal.invariant_of-self-in_err-room
invariant_of-self-in_err-room c = IsKept-grown c.self.inside _ (record {
  keys = c.reserve.ensures.keys;
  edges = c.reserve.ensures.room.0;
  after = c.room.ensures.after;
  before = c.room.ensures.before;
  ranks = refl;
  ranks_room = omega arith;
  rest = refl;
}) c.self.invariant

pub invariant_of-self-in_err-room-2 : goal.invariant_of-self-in_err-room-2
invariant_of-self-in_err-room-2 c = IsKept-grown c.self.inside _ (record {
  keys = c.reserve.ensures.keys;
  edges = c.reserve.ensures.room.0;
  after = c.room.ensures.after;
  before = c.room.ensures.before;
  ranks = c.room-2.ensures.ranks;
  ranks_room = c.room-2.ensures.kept;
  rest = refl;
}) c.self.invariant

pub invariant_of-self-2 : goal.invariant_of-self-2
invariant_of-self-2 c =
    let i = c.self.invariant in
    let now = ap (λ g. g.classes) c.self.view_is in
    let grown : Inside _ = record {
      edges = c.reserve.new.self;
      lists = c.room.new.self;
      classes = c.self.inside.classes;
      ranks = c.room-2.new.self;
      has_cycle = c.self.inside.has_cycle;
      spare_classes = c.self.inside.spare_classes;
      spare_edges = c.self.inside.spare_edges;
    } in
    let kept : IsKept grown = IsKept-grown c.self.inside grown (record {
      keys = c.reserve.ensures.keys;
      edges = c.reserve.ensures.room.0;
      after = c.room.ensures.after;
      before = c.room.ensures.before;
      ranks = c.room-2.ensures.ranks;
      ranks_room = c.room-2.ensures.kept;
      rest = refl;
    }) c.self.invariant in
    IsKept-spare grown c.args.classes c.args.edges c.max-self-inside.result
    c.max-self-inside-2.result kept
    c.max-self-inside.ensures c.max-self-inside-2.ensures
    c.in_ok-reserve.ensures.ok
    (let r = c.in_ok-room.ensures.after_room.for_classes in let same = ap length c.room.ensures.after.lists in omega (arith, same, i.after_classes, r))
    c.in_ok-room.ensures.after_room.for_items
    (let r = c.in_ok-room.ensures.before_room.for_classes in let same = ap length c.room.ensures.before.lists in omega (arith, same, i.before_classes, r))
    c.in_ok-room.ensures.before_room.for_items
    (omega (arith, c.in_ok-room-2.ensures.room))
    (omega (arith, now, c.requires))
