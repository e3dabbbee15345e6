use Rattle.std.proofs.Common.{◌≡◌, ap, subst, sym, ◌∙◌, length, take, arith}
use Rattle.std.proofs.lemmas.List.{take_all}
use Rattle.ld_tables.specs.Inner.Edges.{edges_of}
use Rattle.std.specs.List.{All}
use Rattle.ld_tables.specs.Inner.Locks.{AreTied, HasItsEdges, HeldByTasks}
use Rattle.ld_tables.specs.Inner.Chains.{chains_of}
use Rattle.ld_tables.proofs.BeforeLemmas.{before_now, none_shown, tied_none}
use Rattle.ld_tables.proofs.RoomLemmas.{complete_then}
use Rattle.ld_tables.proofs.locks.Locks.begin.Goals as goal

pub invariant_of-self : goal.invariant_of-self
invariant_of-self c =
    let new = c.make_room_if_untold.new.chains in
    let edges = c.make_room_if_untold.new.edges in
    let complete = complete_then c.self.inside.chains new c.self.inside.told c.make_room_if_untold.ensures.same (edges_of edges.tellings)
    (subst (λ ts. All (λ number. HasItsEdges (chains_of c.self.inside.chains.links) (edges_of ts) number) c.self.inside.told) (sym c.make_room_if_untold.ensures.edges) c.self.invariant.tied.complete) in
    record {
      tied =
          subst (λ ss. AreTied ss (chains_of new.links) c.self.inside.told (edges_of edges.tellings)) (sym c.begin.ensures)
          (tied_none (chains_of new.links) c.self.inside.told (edges_of edges.tellings) complete);
      start = before_now (chains_of new.links) c.self.inside.told edges.tellings complete
          (record { edges = length c.tellings.result.now; told = length c.as_slice.result.now }) (ap length c.tellings.ensures.same) (ap length c.as_slice.ensures.same);
      masked = c.make_room_if_untold.ensures.numbered c.self.invariant.masked;
      room = λ _ untold none. c.make_room_if_untold.ensures.room untold (sym c.make_room_if_untold.ensures.edges ∙ none);
    }

pub returns : goal.returns
returns c =
    let tellings = c.make_room_if_untold.new.edges.tellings in
    let many : length c.tellings.result.now ≡ length tellings = ap length c.tellings.ensures.same in
    let edges = ap edges_of c.make_room_if_untold.ensures.edges ∙ ap (λ (k : HeldByTasks). k.edges) c.self.view_is in
    none_shown c.begin.new.self (edges_of tellings) (edges_of (take (length c.tellings.result.now) tellings)) c.args.self.now.edges c.args.self.now.edges c.begin.ensures edges
    (ap edges_of (take_all (length c.tellings.result.now) tellings (omega arith)) ∙ edges)
