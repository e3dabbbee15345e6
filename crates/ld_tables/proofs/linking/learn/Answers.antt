use Rattle.std.proofs.Common.{◌<◌, length, map, set, subst, sym, arith, Some}
use Rattle.ld_tables.specs.declared.held.Held.{Held}
use Rattle.ld_tables.specs.Inner.Chains.{chains_of}
use Rattle.ld_tables.specs.Inner.Edges.{AreMasks}
use Rattle.ld_tables.proofs.ChainLemmas.{length-chains_of}
use Rattle.ld_tables.proofs.MaskedLemmas.{masked_kept, masked_more, masked_set}
use Rattle.ld_tables.proofs.linking.learn.Goals as goal

pub returns-in_err-masks-clause-numbered : goal.returns-in_err-masks-clause-numbered
returns-in_err-masks-clause-numbered c =
    masked_more (chains_of c.args.chains.now.links) c.args.chains.now.masks c.args.edges.now.words c.masks-2.new.self.words c.masks-2.ensures.more c.requires.numbered

pub returns-clause-numbered : goal.returns-clause-numbered
returns-clause-numbered c =
    let chains = c.args.chains.now in
    let words = c.masks-2.new.self.words in
    let froms = map (λ (h : Held). h.class) c.args.stack.now in
    let place : c.args.chain < length chains.masks = omega (arith, c.requires.within, c.masks.ensures.many, length-chains_of chains.links) in
    let are = masked_more (chains_of chains.links) chains.masks c.args.edges.now.words words c.in_ok-masks.ensures.more c.requires.numbered in
    masked_kept chains c.keep.new.self words (set chains.masks c.args.chain (Some c.deref.result.now)) c.keep.result are
    (masked_set (chains_of chains.links) chains.masks words c.args.chain froms c.args.class c.deref.result.now place c.requires.is
    (subst (AreMasks words c.args.class froms) (sym c.deref.ensures.value) c.in_ok-masks.ensures.masks) are)
    c.keep.ensures.links c.keep.ensures.masks c.keep.ensures.refused
