use Rattle.std.proofs.Common.{◌≡◌, ◌-◌, ◌&&◌, ap, drop, get_or, length, not, subst, sym, take, ◌∙◌}
use Rattle.std.proofs.lemmas.List.{take_rest}
use Rattle.ld_class.specs.Blocks.{is_on}
use Rattle.ld_tables.specs.Inner.Edges.{AreTold, has_told}
use Rattle.ld_tables.proofs.CutLemmas.{told-cut}
use Rattle.ld_tables.proofs.edges.Edges.cut.Goals as goal

pub invariant_of-self : goal.invariant_of-self
invariant_of-self c =
    let told = c.self.inside.told.items in
    let tellings = c.self.inside.tellings.items in
    let gone : take (length c.deref.result.now - c.args.count) (drop c.args.count c.deref.result.now) ≡ drop c.args.count tellings = take_rest c.deref.result.now c.args.count ∙ ap (drop c.args.count) c.deref.ensures.value in
    subst (AreTold c.self.inside.words.keys c.untell.new.told.items) (sym c.truncate.ensures.items)
    (told-cut c.self.inside.words.keys told tellings c.self.invariant c.args.count c.untell.new.told.items c.untell.ensures.many
    (λ n k within place. c.untell.ensures.off n k within place ∙ ap (λ ts. is_on (get_or told n 0) k && not (has_told ts n k)) gone))
