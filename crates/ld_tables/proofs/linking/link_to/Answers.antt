use Rattle.std.proofs.Common.{Some, ap, ◌∙◌, sym, length, option_map}
use Rattle.std.proofs.lemmas.Bool.{ltb-true}
use Rattle.ld_tables.specs.declared.held.Held.{Held}
use Rattle.ld_tables.specs.Inner.Chains.{link_with}
use Rattle.ld_tables.proofs.LockLemmas.{chain_of_last}
use Rattle.ld_tables.proofs.linking.link_to.Goals as goal

pub returns-in-Some-chain : goal.returns-in-Some-chain
returns-in-Some-chain c =
    let item = c.in-Some.ensures.item in
    ap (λ o. option_map (link_with c.args.class) (option_map Some o)) (sym c.in-Some-chain.is)
    ∙ ap (λ (h : Held). option_map (link_with c.args.class) (option_map Some h.chain)) item.1
    ∙ ap (option_map (link_with c.args.class)) (chain_of_last c.in-Some.held.now c.args.stack.now (ltb-true 0 (length c.args.stack.now) (sym item.0)))

pub returns-in-None-chain : goal.returns-in-None-chain
returns-in-None-chain c =
    let item = c.in-Some.ensures.item in
    ap (λ o. option_map (link_with c.args.class) (option_map Some o)) (sym c.in-None-chain.is)
    ∙ ap (λ (h : Held). option_map (link_with c.args.class) (option_map Some h.chain)) item.1
    ∙ ap (option_map (link_with c.args.class)) (chain_of_last c.in-Some.held.now c.args.stack.now (ltb-true 0 (length c.args.stack.now) (sym item.0)))
