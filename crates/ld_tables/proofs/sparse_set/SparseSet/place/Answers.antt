use Rattle.std.proofs.Common.{◌≡◌, true, length, nat_eq, ap, ◌∙◌, arith}
use Rattle.std.proofs.lemmas.Grind.{get_or_default_zero}
use Rattle.std.specs.List.{list_any, position_or_len}
use Rattle.ld_tables.proofs.NumberLemmas.{place_below, place_is, place_within}
use Rattle.ld_tables.proofs.sparse_set.SparseSet.place.Goals as goal

pub index-requires : goal.index-requires
index-requires c =
    let there : list_any (nat_eq c.args.member) c.self.inside.order.items ≡ true = ap (list_any (nat_eq c.args.member)) c.self.view_is ∙ c.requires in
    let within = place_within c.self.inside.order.items c.self.inside.place.items c.self.invariant c.args.member there in
    omega (arith, within, c.self.inside.place.ok)

pub returns-clause-place : goal.returns-clause-place
returns-clause-place c =
    let there : list_any (nat_eq c.args.member) c.self.inside.order.items ≡ true = ap (list_any (nat_eq c.args.member)) c.self.view_is ∙ c.requires in
    let within = place_within c.self.inside.order.items c.self.inside.place.items c.self.invariant c.args.member there in
    c.index.ensures ∙ get_or_default_zero c.self.inside.place.items c.args.member c.index.result.now within
    ∙ place_is c.self.inside.order.items c.self.inside.place.items c.self.invariant c.args.member there
    ∙ ap (position_or_len (nat_eq c.args.member)) c.self.view_is

pub returns-clause-within : goal.returns-clause-within
returns-clause-within c =
    let there : list_any (nat_eq c.args.member) c.self.inside.order.items ≡ true = ap (list_any (nat_eq c.args.member)) c.self.view_is ∙ c.requires in
    let within = place_within c.self.inside.order.items c.self.inside.place.items c.self.invariant c.args.member there in
    let here = c.index.ensures ∙ get_or_default_zero c.self.inside.place.items c.args.member c.index.result.now within in
    let below = place_below c.self.inside.order.items c.self.inside.place.items c.self.invariant c.args.member there in
    omega (arith, here, below, ap length c.self.view_is)
