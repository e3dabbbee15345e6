use Rattle.std.proofs.Common.{◌≡◌, ◌∙◌, nat_eq, ap, length, nat_lt, arith}
use Rattle.std.proofs.lemmas.Grind.{get_or_default_zero}
use Rattle.std.specs.List.{list_any}
use Rattle.ld_tables.proofs.NumberLemmas.{is_at, none_beyond, none_past}
use Rattle.ld_tables.proofs.sparse_set.SparseSet.has.Goals as goal

pub returns-then-len-index : goal.returns-then-len-index
returns-then-len-index c =
    none_past c.self.inside.order.items c.self.inside.place.items c.self.invariant c.args.number (omega arith)
    ∙ ap (list_any (nat_eq c.args.number)) c.self.view_is

pub returns-then-place-len : goal.returns-then-place-len
returns-then-place-len c =
    is_at c.self.inside.order.items c.self.inside.place.items c.self.invariant c.args.number c.index.result.now
    (c.index.ensures ∙ get_or_default_zero c.self.inside.place.items c.args.number c.index.result.now (omega arith))
    c.index-then-place-len.result.now (omega arith)
    (c.index-then-place-len.ensures ∙ get_or_default_zero c.self.inside.order.items c.index.result.now c.index-then-place-len.result.now (omega arith))
    ∙ ap (list_any (nat_eq c.args.number)) c.self.view_is

pub returns-else-place-len : goal.returns-else-place-len
returns-else-place-len c =
    let many : c.len-2.result ≡ length c.self.inside.order.items = omega (arith, c.len-2.ensures) in
    ap (nat_lt c.index.result.now) many
    ∙ none_beyond c.self.inside.order.items c.self.inside.place.items c.self.invariant c.args.number c.index.result.now
    (c.index.ensures ∙ get_or_default_zero c.self.inside.place.items c.args.number c.index.result.now (omega arith)) (omega arith)
    ∙ ap (list_any (nat_eq c.args.number)) c.self.view_is
