use Rattle.std.proofs.Common.{◌≡◌, ℕ, [], true, false, Contains, arith, get_or, sym, subst}
use Rattle.std.proofs.lemmas.List.{with_items_is}
use Rattle.ld_graph.specs.Inner.Marks.{AreMarked}
use Rattle.ld_graph.proofs.MarkLemmas.{found_below, AreMarked-cleared}
use Rattle.ld_graph.proofs.search.Search.clear.Goals as goal

pub unmark-requires : goal.unmark-requires
unmark-requires c = λ k n.
    let b = found_below c.self.inside.marks.items c.self.inside.found.items c.self.invariant.0 k
    (subst (λ l. Contains l k) c.deref.ensures.value n) in
    omega (arith, b, c.deref_mut.ensures.len)

pub invariant_of-self : goal.invariant_of-self
invariant_of-self c =
    let items = with_items_is c.self.inside.marks c.unmark.new.marks (omega (arith, c.unmark.auto.marks, c.deref_mut.ensures.len)) in (
      rw c.clear.ensures.items (subst (λ m. AreMarked m []) (sym items)
          (AreMarked-cleared c.deref_mut.result.now c.unmark.new.marks c.self.inside.found.items
          (subst (λ m. AreMarked m c.self.inside.found.items) (sym c.deref_mut.ensures.value)
          c.self.invariant.0)
          (subst (λ f. (k : ℕ) → get_or c.unmark.new.marks k false ≡ true
          → (get_or c.deref_mut.result.now k false ≡ true) × (¬ Contains f k)) c.deref.ensures.value
          c.unmark.ensures))),
      omega (arith, c.self.invariant.1, c.clear.ensures.capacity),
    )
