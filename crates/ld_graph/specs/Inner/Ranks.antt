-- What the ranks keep true of their fields. No public contract cites this file.
use Rattle.std.specs.Prelude.{◌≡◌, ◌≤◌, [], length}
use Rattle.ld_graph.specs.declared.graph.TheConstants.{MOST_GRAPH_CLASSES}
use Rattle.ld_graph.specs.declared.ranks.Ranks.TheInside.{Inside}

pub record IsRanked (r : Inside) : Type 0 where
  pub within : length r.order.ranks ≤ r.room
  pub few : r.room ≤ MOST_GRAPH_CLASSES
  -- there is memory, and nothing is left of an earlier repair
  pub order_room : r.room ≤ r.order.room
  pub backward_room : r.room ≤ r.backward.size
  pub forward_room : r.room ≤ r.forward.size
  pub backward_none : r.backward.found ≡ []
  pub forward_none : r.forward.found ≡ []
