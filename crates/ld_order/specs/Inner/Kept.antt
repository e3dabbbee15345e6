-- What an order keeps true of its fields, and what callers see of them. No public contract cites this file.
use Rattle.std.specs.Prelude.{◌≡◌, ℕ, ◌+◌, ◌-◌, ◌<◌, ◌≤◌, List, length, slice_index, map, vec_capacity}
use Rattle.std.specs.List.{range_with_len}
use Rattle.ld_order.specs.declared.order.Order.TheInside.{Inside}
use Rattle.ld_order.specs.declared.order.TheConstants.{MOST_ORDERED_CLASSES}
use Rattle.ld_order.specs.Orders.{Ordered}
use Rattle.ld_order.specs.Inner.Rings.{IsRing, rank}

-- the rank of each class, where these are the labels of the nodes: class c is node c + 1, and the head counts for none
abbrev pub ranks_of : List ℕ → List ℕ
ranks_of labels = map (λ c. rank (length labels) (slice_index labels) (c + 1) - 1) (range_with_len 0 (length labels - 1))

-- what callers see of the fields
abbrev pub ordered_of : Inside → Ordered
ordered_of o = record { ranks = ranks_of o.labels.items; room = o.room }

pub record IsKept (o : Inside) : Type 0 where
  pub next_len : length o.next.items ≡ length o.labels.items
  pub prev_len : length o.prev.items ≡ length o.labels.items
  pub ranks_len : length o.ranks.items ≡ length o.labels.items - 1
  -- there is no head until there is memory
  pub none : o.room ≡ 0 → length o.labels.items ≡ 0
  pub ring : 0 < o.room → IsRing o.labels.items o.next.items o.prev.items
  pub within : length o.labels.items ≤ o.room + 1
  pub few : o.room ≤ MOST_ORDERED_CLASSES
  pub labels_room : 0 < o.room → o.room < vec_capacity o.labels
  pub next_room : 0 < o.room → o.room < vec_capacity o.next
  pub prev_room : 0 < o.room → o.room < vec_capacity o.prev
  pub pool_room : o.room ≤ vec_capacity o.pool
  pub sorted_room : o.room ≤ vec_capacity o.sorted
  pub ranks_room : o.room ≤ vec_capacity o.ranks
