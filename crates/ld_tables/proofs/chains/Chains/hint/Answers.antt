use Rattle.std.proofs.Common.{◌≡◌, ◌<◌, [], ◌∷◌, ◌++◌, length, get_or, subst}
use Rattle.ld_tables.specs.Inner.Chains.{KeptChains, chain_before, chains_of}
use Rattle.ld_tables.proofs.ChainLemmas.{place_chain, place_within}
use Rattle.ld_tables.proofs.chains.Chains.hint.Goals as goal

pub returns-then-is_at-clause-within : goal.returns-then-is_at-clause-within
returns-then-is_at-clause-within c =
    subst (λ (k : KeptChains). c.of-hint.result < length (chains_of k.links)) c.self.view_is
    (place_within c.self.inside.links.keys c.args.link c.self.invariant.tree c.of-hint.result c.if-is_at.ensures)

pub returns-then-is_at-clause-chain : goal.returns-then-is_at-clause-chain
returns-then-is_at-clause-chain c =
    subst (λ (k : KeptChains). get_or (chains_of k.links) c.of-hint.result [] ≡ chain_before (chains_of k.links) c.args.link.before ++ c.args.link.class ∷ []) c.self.view_is
    (place_chain c.self.inside.links.keys c.args.link c.self.invariant.tree c.of-hint.result c.if-is_at.ensures)
