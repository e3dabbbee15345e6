use Rattle.std.proofs.Common.{◌≡◌, ◌<◌, ℕ, List, false, if◌then◌else◌, ap, arith, drop, get_or, length, nat_eq, subst, sym, take, ◌-◌, ◌∙◌}
use Rattle.std.proofs.lemmas.List.{take_rest}
use Rattle.std.specs.List.{list_any}
use Rattle.ld_tables.specs.Inner.Numbers.{AreMarked}
use Rattle.ld_tables.proofs.MarkLemmas.{drop_within, marked_cut}
use Rattle.ld_tables.proofs.marked_set.cut_marked.Goals as goal

pub unmark-requires : goal.unmark-requires
unmark-requires c =
    let order = c.args.order.now.items in
    let gone : take (length c.deref.result.now - c.args.count) (drop c.args.count c.deref.result.now) ≡ drop c.args.count order =
    take_rest c.deref.result.now c.args.count ∙ ap (drop c.args.count) c.deref.ensures.value in
    subst (λ (ns : List ℕ). (i d : ℕ) → i < length ns → get_or ns i d < length c.args.marks.now.items) (sym gone)
    (drop_within order c.args.marks.now.items c.requires c.args.count)

pub returns-clause-marked : goal.returns-clause-marked
returns-clause-marked c =
    let order = c.args.order.now.items in
    let marks = c.args.marks.now.items in
    let gone : take (length c.deref.result.now - c.args.count) (drop c.args.count c.deref.result.now) ≡ drop c.args.count order =
    take_rest c.deref.result.now c.args.count ∙ ap (drop c.args.count) c.deref.ensures.value in
    subst (λ (ns : List ℕ). AreMarked ns c.unmark.new.marks.items) (sym c.truncate.ensures.items)
    (marked_cut order marks c.requires c.args.count (omega arith) c.unmark.new.marks.items
    (λ k. c.unmark.ensures k ∙ ap (λ (ns : List ℕ). if list_any (nat_eq k) ns then false else get_or marks k false) gone))
