use Rattle.std.proofs.Common.{◌∷◌, [], ◌++◌, ◌∙◌, ap, map}
use Rattle.std.proofs.lemmas.List.{map-append}
use Rattle.ld_tables.specs.Inner.Stacks.{PlainStack, plain_held}
use Rattle.ld_tables.proofs.StackLemmas.{put}
use Rattle.ld_tables.proofs.held.Stacks.push.Goals as goal

pub returns : goal.returns
returns c =
    put c.args.self.now c.self.inside.stacks.items c.self.inside.live c.self.invariant c.self.view_is c.args.task c.requires.task c.index_mut.result.now c.index_mut.ensures.value _
    (λ (s : PlainStack). record s { held = s.held ++ plain_held c.args.held ∷ [] })
    (ap (λ hs. record { held = hs; interrupts = c.index_mut.result.now.interrupts })
    (ap (map plain_held) c.push.ensures.items ∙ map-append plain_held c.index_mut.result.now.held.items (c.args.held ∷ [])))
