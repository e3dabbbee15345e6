use Rattle.std.proofs.Common.{◌∙◌, ap, map, sym, take}
use Rattle.std.proofs.lemmas.List.{take-map}
use Rattle.ld_tables.specs.Inner.Stacks.{PlainStack, plain_held}
use Rattle.ld_tables.proofs.StackLemmas.{put}
use Rattle.ld_tables.proofs.held.Stacks.truncate.Goals as goal

pub returns : goal.returns
returns c =
    put c.args.self.now c.self.inside.stacks.items c.self.inside.live c.self.invariant c.self.view_is c.args.task c.requires c.index_mut.result.now c.index_mut.ensures.value _
    (λ (s : PlainStack). record s { held = take c.args.place s.held })
    (ap (λ hs. record { held = hs; interrupts = c.index_mut.result.now.interrupts })
    (ap (map plain_held) c.truncate.ensures.items ∙ sym (take-map plain_held c.args.place c.index_mut.result.now.held.items)))
