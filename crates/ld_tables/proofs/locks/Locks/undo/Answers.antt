use Rattle.std.proofs.Common.{ap, ◌∙◌, take, arith}
use Rattle.std.proofs.lemmas.List.{take-take}
use Rattle.ld_tables.specs.Inner.Edges.{KeptEdges, edges_of}
use Rattle.ld_tables.specs.Inner.Locks.{HeldByTasks}
use Rattle.ld_tables.proofs.BeforeLemmas.{none_shown, undone}
use Rattle.ld_tables.proofs.locks.Locks.undo.Goals as goal

pub invariant_of-self : goal.invariant_of-self
invariant_of-self c =
    undone c.self.inside.before c.self.inside.chains c.self.inside.told c.self.inside.edges c.self.invariant.start c.self.invariant.masked
    c.begin.new.self c.cut-2.new.self c.cut.new.self c.begin.ensures c.cut-2.ensures c.cut.ensures
    c.make_room_if_untold.new.chains c.make_room_if_untold.new.edges c.make_room_if_untold.ensures.same c.make_room_if_untold.ensures.edges c.make_room_if_untold.ensures.numbered
    c.make_room_if_untold.ensures.room

pub returns : goal.returns
returns c =
    let before = ap (λ (k : HeldByTasks). k.before) c.self.view_is in
    let cut = c.make_room_if_untold.ensures.edges ∙ ap (λ (k : KeptEdges). k.tellings) c.cut.ensures in
    none_shown c.begin.new.self (edges_of c.make_room_if_untold.new.edges.tellings) (edges_of (take c.self.inside.before.edges c.make_room_if_untold.new.edges.tellings)) c.args.self.now.before c.args.self.now.before c.begin.ensures
    (ap edges_of cut ∙ before)
    (ap edges_of (ap (take c.self.inside.before.edges) cut ∙ take-take c.self.inside.before.edges c.self.inside.before.edges c.self.inside.edges.tellings (omega arith)) ∙ before)
