use Rattle.std.proofs.Common.{◌≡◌, true, get_or, nat_eq, ap, ◌∙◌}
use Rattle.std.specs.List.{list_any, position_or_len}
use Rattle.ld_tables.proofs.NumberLemmas.{place_is}
use Rattle.ld_tables.proofs.sparse_set.SparseSet.places.Goals as goal

pub returns : goal.returns
returns c n there =
    let here : list_any (nat_eq n) c.self.inside.order.items ≡ true = ap (list_any (nat_eq n)) c.self.view_is ∙ there in
    ap (λ places. get_or places n 0) c.as_slice.ensures.value
    ∙ place_is c.self.inside.order.items c.self.inside.place.items c.self.invariant n here
    ∙ ap (position_or_len (nat_eq n)) c.self.view_is
