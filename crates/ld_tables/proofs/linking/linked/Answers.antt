use Rattle.std.proofs.Common.{◌≡◌, ◌++◌, ◌∷◌, [], List, ℕ, None, Result, Ok, ap, length, map, subst, sym, ◌∙◌}
use Rattle.std.specs.declared.alloc.AllocError.{AllocError}
use Rattle.ld_tables.specs.declared.held.Held.{Held}
use Rattle.ld_tables.specs.declared.masks.Word.{Word}
use Rattle.ld_tables.specs.Inner.Chains.{KeptChains, chain_before, chains_of}
use Rattle.ld_tables.specs.Inner.Locks.{HasItsMasks, IsChain, IsExtended}
use Rattle.ld_tables.proofs.MaskedLemmas.{chain_then, extended_then, link_before, link_class, link_froms, masked_then, within_then}
use Rattle.ld_tables.proofs.linking.linked.Goals as goal

-- what was asked of the chains holds of them once the chain was looked for
module _ (old now : KeptChains) (same : now ≡ old) where
  masked_now : (words : List Word) → HasItsMasks (chains_of old.links) old.masks words → HasItsMasks (chains_of now.links) now.masks words
  masked_now words = subst (λ (k : KeptChains). HasItsMasks (chains_of k.links) k.masks words) (sym same)

  before_now : (before : _) (froms : List ℕ) → chain_before (chains_of old.links) before ≡ froms → chain_before (chains_of now.links) before ≡ froms
  before_now before froms is = ap (λ (k : KeptChains). chain_before (chains_of k.links) before) same ∙ is

  many_now : length old.masks ≡ length old.links → length now.masks ≡ length now.links
  many_now = subst (λ (k : KeptChains). length k.masks ≡ length k.links) (sym same)

pub find-requires : goal.find-requires
find-requires c = link_before (chains_of c.args.chains.now.links) c.args.stack.now c.args.class c.in-Some.link (sym c.in-Some.is ∙ c.link_to.ensures) c.requires

pub returns-in-Some-find-clause-chain : goal.returns-in-Some-find-clause-chain
returns-in-Some-find-clause-chain c =
    let chains = c.args.chains.now in
    let froms = map (λ (h : Held). h.class) c.args.stack.now in
    let is = link_froms (chains_of chains.links) c.args.stack.now c.args.class c.in-Some.link (sym c.in-Some.is ∙ c.link_to.ensures) c.requires in
    let class = link_class (chains_of chains.links) c.args.stack.now c.args.class c.in-Some.link (sym c.in-Some.is ∙ c.link_to.ensures) c.requires in
    subst (λ (k : KeptChains). IsChain (chains_of k.links) c.in-Some-find.chain (froms ++ c.args.class ∷ [])) (sym c.find.ensures.same)
    (c.in-Some-find.ensures.within, c.in-Some-find.ensures.chain ∙ (λ i. is i ++ class i ∷ []))

pub returns-clause-numbered : goal.returns-clause-numbered
returns-clause-numbered c words numbered =
    let froms = map (λ (h : Held). h.class) c.args.stack.now in
    let is = link_froms (chains_of c.args.chains.now.links) c.args.stack.now c.args.class c.in-Some.link (sym c.in-Some.is ∙ c.link_to.ensures) c.requires in
    masked_then c.find.new.self c.add.new.self c.in-Some.link froms
    (before_now c.args.chains.now c.find.new.self c.find.ensures.same c.in-Some.link.before froms is)
    None c.add.result words
    (many_now c.args.chains.now c.find.new.self c.find.ensures.same c.find.ensures.many)
    (masked_now c.args.chains.now c.find.new.self c.find.ensures.same words numbered)
    tt c.add.ensures.links c.add.ensures.masks c.add.ensures.refused

pub returns-clause-more : goal.returns-clause-more
returns-clause-more c =
    let froms = map (λ (h : Held). h.class) c.args.stack.now in
    let is = link_froms (chains_of c.args.chains.now.links) c.args.stack.now c.args.class c.in-Some.link (sym c.in-Some.is ∙ c.link_to.ensures) c.requires in
    subst (λ (k : KeptChains). IsExtended (chains_of k.links) (chains_of c.add.new.self.links)) c.find.ensures.same
    (extended_then c.find.new.self c.add.new.self c.in-Some.link froms
    (before_now c.args.chains.now c.find.new.self c.find.ensures.same c.in-Some.link.before froms is)
    None c.add.result c.add.ensures.links c.add.ensures.refused)

pub returns-clause-chain : goal.returns-clause-chain
returns-clause-chain c =
    let froms = map (λ (h : Held). h.class) c.args.stack.now in
    let is = link_froms (chains_of c.args.chains.now.links) c.args.stack.now c.args.class c.in-Some.link (sym c.in-Some.is ∙ c.link_to.ensures) c.requires in
    let class = link_class (chains_of c.args.chains.now.links) c.args.stack.now c.args.class c.in-Some.link (sym c.in-Some.is ∙ c.link_to.ensures) c.requires in
    let before = before_now c.args.chains.now c.find.new.self c.find.ensures.same c.in-Some.link.before froms is in
    let added : Result ℕ AllocError = Ok c.in_ok-add.field-0 in (
      within_then c.find.new.self c.add.new.self c.in-Some.link froms before None added c.in_ok-add.ensures.number c.in_ok-add.ensures.links,
      chain_then c.find.new.self c.add.new.self c.in-Some.link froms before None added c.in_ok-add.ensures.number c.in_ok-add.ensures.links
          ∙ ap (λ k. froms ++ k ∷ []) class,
    )
