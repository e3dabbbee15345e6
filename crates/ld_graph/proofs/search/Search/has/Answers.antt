use Rattle.std.proofs.Common.{◌≡◌, ◌<◌, ◌↔◌, Contains, IsTrue, ap, arith, false, get_or, length, sym, subst}
use Rattle.std.proofs.lemmas.List.{get_or_read}
use Rattle.ld_graph.proofs.search.Search.has.Goals as goal

pub returns : goal.returns
returns c =
    let size = ap (λ s. s.size) c.self.view_is in
    let within : c.args.class < length c.self.inside.marks.items = omega (arith, size, c.requires) in
    let is : c.index.result.now ≡ get_or c.self.inside.marks.items c.args.class false =
    get_or_read c.self.inside.marks.items c.args.class c.index.result.now within c.index.ensures false in
    subst (λ s. IsTrue c.index.result.now ↔ Contains s.found c.args.class) c.self.view_is
    (subst (λ b. IsTrue b ↔ Contains c.self.inside.found.items c.args.class) (sym is)
    (c.self.invariant.0.marked c.args.class))
