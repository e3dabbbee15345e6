use Rattle.std.proofs.Common.{◌≡◌, ◌<◌, ◌∙◌, inl, ap, subst, arith, sym, length, false}
use Rattle.std.proofs.Common.{Contains, get_or, set, true, refl}
use Rattle.std.proofs.lemmas.List.{get_or_read}
use Rattle.ld_graph.specs.Inner.Marks.{AreMarked}
use Rattle.ld_graph.proofs.MarkLemmas.{AreMarked-add, found_less}
use Rattle.ld_graph.proofs.search.Search.add.Goals as goal

pub invariant_of-self : goal.invariant_of-self
invariant_of-self c =
    let size = ap (λ s. s.size) c.self.view_is in
    let within : c.args.class < length c.self.inside.marks.items = omega (arith, size, c.requires) in
    let free : get_or c.self.inside.marks.items c.args.class false ≡ false =
    sym (get_or_read c.self.inside.marks.items c.args.class c.index.result.now within
    c.index.ensures false) ∙ c.if-not-index.true in (
      subst (AreMarked (set c.self.inside.marks.items c.args.class true)) (sym c.push_reserved.ensures.items)
          (AreMarked-add c.self.inside.marks.items c.self.inside.found.items c.self.invariant.0
          c.args.class within free),
      omega (arith, c.self.invariant.1, c.push_reserved.ensures.capacity),
    )

pub push_reserved-requires : goal.push_reserved-requires
push_reserved-requires c =
    let size = ap (λ s. s.size) c.self.view_is in
    let within : c.args.class < length c.self.inside.marks.items = omega (arith, size, c.requires) in
    let free : get_or c.self.inside.marks.items c.args.class false ≡ false =
    sym (get_or_read c.self.inside.marks.items c.args.class c.index.result.now within
    c.index.ensures false) ∙ c.if-not-index.true in
    let less = found_less c.self.inside.marks.items c.self.inside.found.items c.args.class
    c.self.invariant.0 within free in
    omega (arith, less, c.self.invariant.1)

pub returns-else-not-index-clause-found : goal.returns-else-not-index-clause-found
returns-else-not-index-clause-found c =
    let size = ap (λ s. s.size) c.self.view_is in
    let within : c.args.class < length c.self.inside.marks.items = omega (arith, size, c.requires) in
    let read = get_or_read c.self.inside.marks.items c.args.class c.index.result.now within
    c.index.ensures false in
    inl (
      subst (λ s. Contains s.found c.args.class) c.self.view_is
          ((c.self.invariant.0.marked c.args.class).0 (sym read ∙ c.if-not-index.false)),
      refl,
    )
