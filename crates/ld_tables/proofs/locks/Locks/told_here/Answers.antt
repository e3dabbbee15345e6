use Rattle.std.proofs.Common.{◌≡◌, ◌-◌, ◌++◌, List, ap, drop, length, sym, take, ◌∙◌}
use Rattle.std.proofs.lemmas.List.{take-append-drop, take_rest}
use Rattle.std.proofs.lemmas.List.Concat.{flat_map-append}
use Rattle.ld_tables.specs.declared.masks.NewEdges.{NewEdges}
use Rattle.ld_tables.specs.Inner.Edges.{edges_in, edges_of}
use Rattle.ld_tables.specs.Inner.Locks.{HeldByTasks}
use Rattle.ld_tables.proofs.locks.Locks.told_here.Goals as goal

pub returns-clause-told : goal.returns-clause-told
returns-clause-told c =
    let tellings = c.self.inside.edges.tellings in
    let start = c.self.inside.before.edges in
    ap (λ (k : HeldByTasks). k.before ++ edges_of (take (length c.tellings-tellings.result.now - start) (drop start c.tellings-tellings.result.now))) (sym c.self.view_is)
    ∙ ap (λ (ts : List NewEdges). edges_of (take start tellings) ++ edges_of ts) (take_rest c.tellings-tellings.result.now start ∙ ap (drop start) c.tellings-tellings.ensures.same)
    ∙ sym (flat_map-append edges_in (take start tellings) (drop start tellings))
    ∙ ap edges_of (take-append-drop start tellings)
    ∙ ap (λ (k : HeldByTasks). k.edges) c.self.view_is
