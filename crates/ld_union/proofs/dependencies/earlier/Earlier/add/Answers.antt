use Rattle.std.proofs.Common.{◌%◌, ◌*◌, ◌^◌, ◌<◌, ◌∙◌, ap, get_or, length, set, subst, sym}
use Rattle.std.proofs.lemmas.List.{get_or_read}
use Rattle.std.specs.Prelude.{bit_or, max}
use Rattle.ld_union.specs.declared.dependencies.earlier.Block.{Block}
use Rattle.ld_union.specs.Inner.Earlier.{IsKnownEarlier, no_block}
use Rattle.ld_union.proofs.EarlierLemmas.{before-then}
use Rattle.ld_union.proofs.dependencies.earlier.Earlier.add.Goals as goal

pub returns : goal.returns
returns c f n is =
    let mid = c.self.inside.blocks.items in
    let e = c.args.edge in
    let known = c.index_mut-block.result.now in
    let at = c.index_of-index.ensures in
    let within : c.index_of-index.result < length mid = subst (λ blocks. c.index_of-index.result < length blocks) (sym c.self.view_is) c.if-not-make_room.ensures.there in
    let was = get_or_read mid c.index_of-index.result known within c.index_mut-block.ensures.value no_block ∙ ap (λ i. get_or mid i no_block) at in
    let new : Block = record { bits = bit_or known.bits (1 * 2 ^ (e.from % 64) % 2 ^ 64); latest = c.max-block.result } in
    before-then c.args.self.now mid (λ i. ap (λ blocks. get_or blocks i no_block) c.self.view_is ∙ c.make_room.ensures.same i) e c.args.number
    c.if-edge-ge-CLASSES.false (subst (λ i. i < length mid) at within) new
    (ap (λ (b : Block). bit_or b.bits (1 * 2 ^ (e.from % 64) % 2 ^ 64)) was)
    (c.max-block.ensures ∙ ap (λ (b : Block). max b.latest c.args.number) was)
    f n (subst (λ i. IsKnownEarlier (set mid i new) f n) at is)
