use Rattle.std.proofs.Common.{◌+◌, ◌≤◌, ap, subst, sym, ◌∙◌}
use Rattle.ld_graph.specs.Edges.{PlainGraph}
use Rattle.ld_graph.specs.declared.graph.TheConstants.{MOST_GRAPH_CLASSES}
use Rattle.ld_trace.specs.declared.event.State.TheVariants.{Hard, Soft}
use Rattle.ld_union.specs.Inner.Earlier.{AreEarlier}
use Rattle.ld_union.specs.Inner.Reached.{HaveClasses}
use Rattle.ld_union.specs.Inner.Union.{edges_of}
use Rattle.ld_union.proofs.dependencies.Dependencies.room.Goals as goal

pub room-requires-clause-hard : goal.room-requires-clause-hard
room-requires-clause-hard c = subst (λ n. n + c.args.classes ≤ MOST_GRAPH_CLASSES) (sym (c.args.self.now.counted Hard).count) c.requires.classes

pub room-requires-clause-soft : goal.room-requires-clause-soft
room-requires-clause-soft c = subst (λ n. n + c.args.classes ≤ MOST_GRAPH_CLASSES) (sym (c.args.self.now.counted Soft).count) c.requires.classes

pub invariant_of-self-in-Break-branch-2 : goal.invariant_of-self-in-Break-branch-2
invariant_of-self-in-Break-branch-2 c = record {
  same_edges = c.args.self.now.same_edges ∙ sym (ap edges_of c.in_ok-reserve.ensures.items);
  counted = c.room.ensures.classes c.args.self.now.graph.classes c.args.self.now.counted;
  seen_earlier = subst (λ rows. AreEarlier rows c.args.self.now.earlier) (sym c.in_ok-reserve.ensures.items) c.args.self.now.seen_earlier;
}

pub invariant_of-self-2-clause-counted : goal.invariant_of-self-2-clause-counted
invariant_of-self-2-clause-counted c =
    subst (λ n. HaveClasses n c.room.new.self) (sym (ap (λ (g : PlainGraph). g.classes) c.room-2.ensures.same))
    (c.room.ensures.classes c.args.self.now.graph.classes c.args.self.now.counted)

pub invariant_of-self-2-clause-seen_earlier : goal.invariant_of-self-2-clause-seen_earlier
invariant_of-self-2-clause-seen_earlier c = subst (λ rows. AreEarlier rows c.args.self.now.earlier) (sym c.in_ok-reserve.ensures.items) c.args.self.now.seen_earlier
