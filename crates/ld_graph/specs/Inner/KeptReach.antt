-- What a reach keeps true of its fields, and what holds while it is spread. No public contract cites
-- this file.
use Rattle.std.specs.Prelude.{◌≡◌, ◌⊎◌, ℕ, ◌+◌, ◌<◌, ◌≤◌, Bool, true, false, List, length, Option, None, Some, take}
use Rattle.std.specs.Prelude.{IsSome, Contains, slice_index_or, count_by}
use Rattle.ld_graph.specs.declared.graph.TheConstants.{MOST_GRAPH_CLASSES}
use Rattle.ld_graph.specs.declared.reach.Reach.TheInside.{Inside}
use Rattle.ld_graph.specs.Inner.Marks.{Marked}
use Rattle.ld_graph.specs.Inner.Sources.{Sourced}
use Rattle.ld_graph.specs.Lists.{Reading}
use Rattle.ld_graph.specs.Reach.{IsSource, PlainReach}

-- what callers see of the fields
abbrev pub reach_of : Inside → PlainReach
reach_of r = record {
  sources = r.sources.each;
  marks = r.marks.each;
  reached = r.sources.reached;
  spare = r.spare;
  expanded = r.marks.count;
}

-- what holds of the fields of every reach
pub record IsReachKept (r : Inside) : Type 0 where
  pub same : length r.sources.each ≡ length r.marks.each
  pub counted : r.marks.count ≡ count_by (λ m. m) r.marks.each
  pub room_sources : length r.marks.each + r.spare ≤ r.sources.room
  pub room_marks : length r.marks.each + r.spare ≤ r.marks.room
  pub few : length r.marks.each + r.spare ≤ MOST_GRAPH_CLASSES

-- Some classes were expanded: as many lists were read as marks came on, no mark went off, and classes that got a source
-- are behind the others.
pub record AreExpanded (reader : Reading) (marks : Marked) (sources : Sourced) (reader' : Reading) (marks' : Marked) (sources' : Sourced) : Type 0 where
  pub lists : reader'.lists ≡ reader.lists
  pub read : reader'.count + marks.count ≡ reader.count + marks'.count
  pub counted : marks'.count ≡ count_by (λ m. m) marks'.each
  pub len_marks : length marks'.each ≡ length marks.each
  pub room_marks : marks'.room ≡ marks.room
  pub stays : (x : ℕ) → slice_index_or marks.each x false ≡ true → slice_index_or marks'.each x false ≡ true
  pub len : length sources'.each ≡ length sources.each
  pub room : sources'.room ≡ sources.room
  pub longer : length sources.reached ≤ length sources'.reached
  pub front : (n : ℕ) → n ≤ length sources.reached → take n sources'.reached ≡ take n sources.reached

-- What holds while a reach is spread over the classes that were reached, of which those from number `done` on may wait.
-- `ahead` has the steps from marked classes that were not gone yet.
pub record IsSpread (step : ℕ → ℕ → Type 0) (seeds : List ℕ) (ahead : ℕ → ℕ → Type 0) (sources : List (Option ℕ)) (marks : List Bool) (reached : List ℕ) (done : ℕ) : Type 0 where
  pub sound : (x s : ℕ) → slice_index_or sources x None ≡ Some s → IsSource step seeds x s
  pub covered : (i : ℕ) → i < done → slice_index_or marks (slice_index_or reached i 0) false ≡ true
  pub seeded : (x : ℕ) → Contains seeds x → slice_index_or marks x false ≡ true
  pub known : (x : ℕ) → slice_index_or marks x false ≡ true → Contains seeds x ⊎ IsSome (slice_index_or sources x None)
  pub closed : (x y : ℕ) → slice_index_or marks x false ≡ true → step x y → ahead x y ⊎ IsSome (slice_index_or sources y None)

-- no step is ahead
abbrev pub none_ahead : ℕ → ℕ → Type 0
none_ahead x y = ⊥

-- all steps from this class are ahead
abbrev pub all_ahead : (ℕ → ℕ → Type 0) → ℕ → ℕ → ℕ → Type 0
all_ahead step class x y = (x ≡ class) × step x y

-- those to its neighbours from number `from` on are ahead
abbrev pub ahead_from : List ℕ → ℕ → ℕ → ℕ → ℕ → Type 0
ahead_from near class from x y = (x ≡ class) × ((i : ℕ) × ((from ≤ i) × (i < length near) × (slice_index_or near i 0 ≡ y)))
