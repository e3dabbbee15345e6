use Rattle.std.proofs.Common.{◌≡◌, ◌<◌, ◌++◌, [], ◌∷◌, arith, ap, length, map, set, sym, subst, ◌∙◌}
use Rattle.std.proofs.lemmas.List.{get_or_read, get_or-map, length-map}
use Rattle.ld_graph.specs.Lists.{list_at}
use Rattle.ld_graph.specs.Inner.Runs.{no_run, run_at, items_of, HasWay}
use Rattle.ld_graph.proofs.RunLemmas.{way_room, way_within, AreRuns-more, lists-more}
use Rattle.ld_graph.proofs.neighbours.Neighbours.push.Goals as goal
use Rattle.ld_graph.proofs.neighbours.Neighbours.push.Goals.{After-index, After-make_way-run}

-- the class has a run, which is read
within : (c : After-index) → c.args.class < length c.self.inside.runs.items
within c =
    let lists = ap (λ n. length n.lists) c.self.view_is in
    let runs = length-map c.self.inside.runs.items (items_of c.self.inside.slots.items) in
    omega (arith, lists, runs, c.requires.class)

read : (c : After-index) → c.index.result.now ≡ run_at c.self.inside.runs.items c.args.class
read c = get_or_read c.self.inside.runs.items c.args.class c.index.result.now (within c) c.index.ensures no_run

-- and it has room for one more
way : (c : After-make_way-run) → HasWay c.self.inside.slots.items (run_at c.self.inside.runs.items c.args.class)
    c.make_way-run.new.slots.items c.make_way-run.result
way c = subst (λ r. HasWay c.self.inside.slots.items r c.make_way-run.new.slots.items c.make_way-run.result)
    (read (goal.at.After-make_way-run c).After-index) c.make_way-run.ensures.way

pub make_way-run-requires-clause-room : goal.make_way-run-requires-clause-room
make_way-run-requires-clause-room c =
    let items = ap (λ n. n.items) c.self.view_is in
    let room = ap (λ n. n.item_room) c.self.view_is in
    let same = read (goal.at.make_way-run-requires-clause-room c).After-index in
    λ full.
    let w = way_room c.self.inside.runs.items c.self.inside.slots.items c.self.inside.items
    c.args.class c.self.invariant (within (goal.at.make_way-run-requires-clause-room c).After-index)
    (ap (λ r. r.len) (sym same) ∙ full ∙ ap (λ r. r.room) same) in
    let e = ap (λ r. r.len) same in
    omega (arith, w, e, items, room, c.requires.room)

pub overflow_add-run : goal.overflow_add-run
overflow_add-run c =
    let w = way_within c.self.inside.runs.items c.self.inside.slots.items c.self.inside.items
    c.args.class c.self.invariant (within (goal.at.overflow_add-run c).After-index)
    c.make_way-run.new.slots.items c.make_way-run.result
    (way (goal.at.overflow_add-run c).After-make_way-run) c.args.neighbour in
    omega (arith, w)

pub index_mut-requires : goal.index_mut-requires
index_mut-requires c =
    let w = way_within c.self.inside.runs.items c.self.inside.slots.items c.self.inside.items
    c.args.class c.self.invariant (within (goal.at.index_mut-requires c).After-index)
    c.make_way-run.new.slots.items c.make_way-run.result
    (way (goal.at.index_mut-requires c).After-make_way-run) c.args.neighbour in
    omega (arith, w)

pub invariant_of-self : goal.invariant_of-self
invariant_of-self c =
    AreRuns-more c.self.inside.runs.items c.self.inside.slots.items c.self.inside.items c.args.class
    c.self.invariant (within (goal.at.invariant_of-self c).After-index)
    c.make_way-run.new.slots.items c.make_way-run.result
    (way (goal.at.invariant_of-self c).After-make_way-run) c.args.neighbour

pub returns-clause-lists : goal.returns-clause-lists
returns-clause-lists c =
    let all = lists-more c.self.inside.runs.items c.self.inside.slots.items c.self.inside.items
    c.args.class c.self.invariant (within (goal.at.returns-clause-lists c).After-index)
    c.make_way-run.new.slots.items c.make_way-run.result
    (way (goal.at.returns-clause-lists c).After-make_way-run) c.args.neighbour in
    let at = get_or-map (items_of c.self.inside.slots.items) c.self.inside.runs.items c.args.class
    no_run [] (within (goal.at.returns-clause-lists c).After-index) in
    let old = ap (λ n. n.lists) c.self.view_is in
    all
    ∙ ap (λ it. set (map (items_of c.self.inside.slots.items) c.self.inside.runs.items) c.args.class
    (it ++ c.args.neighbour ∷ [])) (sym at)
    ∙ ap (λ ls. set ls c.args.class (list_at ls c.args.class ++ c.args.neighbour ∷ [])) old
