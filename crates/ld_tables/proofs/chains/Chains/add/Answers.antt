use Rattle.std.proofs.Common.{◌≡◌, ◌<◌, ◌++◌, ◌∷◌, [], All, IfSome, false, length, ap, sym, subst, ◌∙◌, arith}
use Rattle.std.proofs.lemmas.List.{length_push}
use Rattle.std.proofs.lemmas.List.Elements.{All-push}
use Rattle.std.specs.List.{list_any}
use Rattle.ld_tables.specs.declared.chains.Link.{Link}
use Rattle.ld_tables.specs.declared.chains.Run.{Run}
use Rattle.ld_tables.specs.Inner.Chains.{IsRun, IsTree, KeptChains, chains_of, same_link}
use Rattle.ld_tables.proofs.ChainLemmas.{IsTree-push, length-chains_of, new_keys}
use Rattle.ld_tables.proofs.chains.Chains.add.Goals as goal

-- what the requirements say of the fields
module _ (chains known : KeptChains) (link : Link) (is : chains ≡ known) where
  within_of : IfSome link.before (λ m. m < length (chains_of known.links)) → IfSome link.before (λ m. m < length chains.links)
  within_of = subst (λ k. IfSome link.before (λ m. m < k)) (ap (λ (k : KeptChains). length (chains_of k.links)) (sym is) ∙ length-chains_of chains.links)

  none_of : list_any (same_link link) known.links ≡ false → list_any (same_link link) chains.links ≡ false
  none_of none = ap (λ (k : KeptChains). list_any (same_link link) k.links) is ∙ none

pub invariant_of-self-2 : goal.invariant_of-self-2
invariant_of-self-2 c =
    let keys = new_keys c.self.inside.links.keys c.args.link (none_of _ c.args.self.now c.args.link c.self.view_is c.requires.new) c.insert.new.self.keys c.in_ok-insert.ensures.keys in
    let run : Run = record { start = 0; end = 0 } in
    let pushed : c.push_reserved.new.self.items ≡ c.self.inside.runs.items ++ run ∷ [] = c.push_reserved.ensures.items ∙ ap (λ rs. rs ++ run ∷ []) c.reserve.ensures.items in
    record {
      tree = subst IsTree (sym keys) (IsTree-push c.self.inside.links.keys c.args.link c.self.invariant.tree (within_of _ c.args.self.now c.args.link c.self.view_is c.requires.before));
      many = omega (arith, ap length pushed, length_push c.self.inside.runs.items run, ap length keys, length_push c.self.inside.links.keys c.args.link, c.self.invariant.many);
      few = omega (arith, ap length keys, length_push c.self.inside.links.keys c.args.link, c.requires.room, ap (λ (k : KeptChains). length k.links) c.self.view_is);
      short = c.self.invariant.short;
      within = subst (All (IsRun c.self.inside.masks.items)) (sym pushed)
          (All-push (IsRun c.self.inside.masks.items) c.self.inside.runs.items run c.self.invariant.within (record { order = omega arith; within = omega arith }));
    }

pub returns-clause-number : goal.returns-clause-number
returns-clause-number c = omega (arith, c.len-number.ensures.len, ap (λ (k : KeptChains). length k.links) c.self.view_is)

pub returns-clause-links : goal.returns-clause-links
returns-clause-links c =
    new_keys c.self.inside.links.keys c.args.link (none_of _ c.args.self.now c.args.link c.self.view_is c.requires.new) c.insert.new.self.keys c.in_ok-insert.ensures.keys
    ∙ ap (λ (k : KeptChains). k.links ++ c.args.link ∷ []) c.self.view_is
