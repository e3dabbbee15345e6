use Rattle.std.proofs.Common.{◌≡◌, ◌+◌, Some, ap, length, map, set, ◌∙◌, arith}
use Rattle.std.proofs.lemmas.List.{length-append}
use Rattle.ld_tables.specs.declared.chains.Run.{Run}
use Rattle.ld_tables.specs.Inner.Chains.{KeptChains, masks_in}
use Rattle.ld_tables.proofs.MaskedLemmas.{kept_within, masks_set}
use Rattle.ld_tables.proofs.chains.Chains.keep.Goals as goal

pub index_mut-requires : goal.index_mut-requires
index_mut-requires c =
    let within = kept_within c.self.inside.links.keys c.self.inside.masks.items c.self.inside.runs.items c.args.self.now c.args.chain c.self.view_is c.self.invariant.many c.requires.chain in
    omega (arith, within, c.self.inside.runs.ok)

pub returns-clause-masks : goal.returns-clause-masks
returns-clause-masks c =
    let more = c.args.masks.now in
    let run : Run = record { start = c.len-start.result; end = c.len-end.result } in
    let start : run.start ≡ length c.self.inside.masks.items = omega (arith, c.len-start.ensures) in
    let end : run.end ≡ length c.self.inside.masks.items + length more = omega (arith, c.len-end.ensures, ap length c.in_ok-extend_from_slice.ensures.items, length-append c.self.inside.masks.items more) in
    ap (λ ns. map (masks_in ns) (set c.self.inside.runs.items c.args.chain run)) c.in_ok-extend_from_slice.ensures.items
    ∙ masks_set c.self.inside.masks.items more run start end c.self.inside.runs.items c.args.chain c.requires.some c.self.invariant.within
    ∙ ap (λ (k : KeptChains). set k.masks c.args.chain (Some more)) c.self.view_is
