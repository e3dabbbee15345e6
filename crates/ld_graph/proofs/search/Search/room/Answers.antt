use Rattle.std.proofs.Common.{◌≡◌, ◌-◌, ◌++◌, ◌∙◌, ap, arith, false, replicate, sym, subst, vec_len}
use Rattle.std.proofs.lemmas.List.{take_all}
use Rattle.ld_graph.specs.Inner.Marks.{AreMarked}
use Rattle.ld_graph.proofs.MarkLemmas.{AreMarked-more}
use Rattle.ld_graph.proofs.search.Search.room.Goals as goal

pub invariant_of-self-2 : goal.invariant_of-self-2
invariant_of-self-2 c =
    let items : c.resize.new.self.items ≡ c.self.inside.marks.items
    ++ replicate (c.args.size - vec_len c.self.inside.marks) false =
    c.in_ok-resize.ensures.items ∙ ap (λ l. l ++ replicate (c.args.size
    - vec_len c.self.inside.marks) false) (take_all c.args.size c.self.inside.marks.items
    (omega (arith, c.if-size-len.false, c.len.ensures))) in (
      subst (λ m. AreMarked m c.reserve.new.self.items) (sym items)
          (subst (AreMarked (c.self.inside.marks.items
          ++ replicate (c.args.size - vec_len c.self.inside.marks) false)) (sym c.reserve.ensures.items)
          (AreMarked-more c.self.inside.marks.items c.self.inside.found.items c.self.invariant.0 _)),
      omega (arith, c.in_ok-resize.ensures.len, c.in_ok-reserve.ensures.ok),
    )
