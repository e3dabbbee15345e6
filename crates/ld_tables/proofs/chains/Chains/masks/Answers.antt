use Rattle.std.proofs.Common.{◌-◌, None, Some, ap, drop, get_or, length, sym, take, ◌∙◌, arith}
use Rattle.std.proofs.Math.ListN.{get_or-map}
use Rattle.std.proofs.lemmas.Bool.{ne_eqb}
use Rattle.std.proofs.lemmas.List.{get_or_default}
use Rattle.ld_tables.specs.declared.chains.Run.{Run}
use Rattle.ld_tables.specs.Inner.Chains.{KeptChains, masks_in}
use Rattle.ld_tables.proofs.MaskedLemmas.{kept_within, run_at, some_masks}
use Rattle.ld_tables.proofs.chains.Chains.masks.Goals as goal

pub index-run-requires : goal.index-run-requires
index-run-requires c =
    let within = kept_within c.self.inside.links.keys c.self.inside.masks.items c.self.inside.runs.items c.args.self.now c.args.chain c.self.view_is c.self.invariant.many c.requires in
    omega (arith, within, c.self.inside.runs.ok)

pub slice_bounds-result-start : goal.slice_bounds-result-start
slice_bounds-result-start c =
    let within = kept_within c.self.inside.links.keys c.self.inside.masks.items c.self.inside.runs.items c.args.self.now c.args.chain c.self.view_is c.self.invariant.many c.requires in
    let is = run_at c.self.inside.masks.items c.self.inside.runs.items c.args.chain c.index-run.result.now c.self.invariant.within c.index-run.ensures within in
    omega (arith, is.order)

pub slice_bounds-result-count : goal.slice_bounds-result-count
slice_bounds-result-count c =
    let within = kept_within c.self.inside.links.keys c.self.inside.masks.items c.self.inside.runs.items c.args.self.now c.args.chain c.self.view_is c.self.invariant.many c.requires in
    let is = run_at c.self.inside.masks.items c.self.inside.runs.items c.args.chain c.index-run.result.now c.self.invariant.within c.index-run.ensures within in
    omega (arith, is.order)

pub slice_bounds-result-end : goal.slice_bounds-result-end
slice_bounds-result-end c =
    let within = kept_within c.self.inside.links.keys c.self.inside.masks.items c.self.inside.runs.items c.args.self.now c.args.chain c.self.view_is c.self.invariant.many c.requires in
    let is = run_at c.self.inside.masks.items c.self.inside.runs.items c.args.chain c.index-run.result.now c.self.invariant.within c.index-run.ensures within in
    omega (arith, is.within, ap length c.deref.ensures.value)

pub returns-clause-kept : goal.returns-clause-kept
returns-clause-kept c =
    let run : Run = c.index-run.result.now in
    let empty : Run = record { start = 0; end = 0 } in
    let masks = c.self.inside.masks.items in
    let runs = c.self.inside.runs.items in
    let within = kept_within c.self.inside.links.keys masks runs c.args.self.now c.args.chain c.self.view_is c.self.invariant.many c.requires in
    ap (λ ns. Some (take (run.end - run.start) (drop run.start ns))) c.deref.ensures.value
    ∙ some_masks masks run (ne_eqb run.start run.end c.if-run.false)
    ∙ ap (masks_in masks) (c.index-run.ensures ∙ get_or_default runs c.args.chain run empty within)
    ∙ sym (get_or-map (masks_in masks) runs c.args.chain empty)
    ∙ ap (λ (k : KeptChains). get_or k.masks c.args.chain None) c.self.view_is
