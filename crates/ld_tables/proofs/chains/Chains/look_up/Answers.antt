use Rattle.std.proofs.Common.{◌≡◌, ◌<◌, [], ◌∷◌, ◌++◌, Some, length, get_or, subst}
use Rattle.ld_tables.specs.Inner.Chains.{KeptChains, chain_before, chains_of}
use Rattle.ld_tables.proofs.ChainLemmas.{found_chain, found_within}
use Rattle.ld_tables.proofs.chains.Chains.look_up.Goals as goal

pub returns-clause-within : goal.returns-clause-within
returns-clause-within c =
    subst (λ (k : KeptChains). c.in_ok-place.place < length (chains_of k.links)) c.self.view_is
    (found_within c.self.inside.links.keys c.args.link c.self.invariant.tree (Some c.in_ok-place.place) c.in_ok-place.ensures.index)

pub returns-clause-chain : goal.returns-clause-chain
returns-clause-chain c =
    subst (λ (k : KeptChains). get_or (chains_of k.links) c.in_ok-place.place [] ≡ chain_before (chains_of k.links) c.args.link.before ++ c.args.link.class ∷ [])
    c.self.view_is
    (found_chain c.self.inside.links.keys c.args.link c.self.invariant.tree (Some c.in_ok-place.place) c.in_ok-place.ensures.index)
