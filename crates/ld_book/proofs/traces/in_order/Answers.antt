use Rattle.std.proofs.Common.{◌≡◌, ◌∙◌, IsPermutation, subst, sym}
use Rattle.std.proofs.lemmas.List.{with_items_is}
use Rattle.std.proofs.lemmas.List.Sorted.{length_permutation}
use Rattle.std.specs.List.Sorted.{IsNonDecreasingBy}
use Rattle.ld_rules.specs.declared.outcome.Listed.{Listed}
use Rattle.ld_book.proofs.traces.in_order.Goals as goal

pub returns-clause-permutation : goal.returns-clause-permutation
returns-clause-permutation c =
    let sorted = c.sort.new.listed in
    let copied : c.in_ok-sorted.sorted.items ≡ c.args.listed.now = c.in_ok-sorted.ensures.items_if_clones_equal (λ x y same. same) in
    let put = with_items_is c.in_ok-sorted.sorted sorted (length_permutation c.deref_mut.result.now sorted c.sort.ensures.permutation ∙ c.deref_mut.ensures.len) in
    subst (IsPermutation c.args.listed.now) (sym put) (subst (λ l. IsPermutation l sorted) (c.deref_mut.ensures.value ∙ copied) c.sort.ensures.permutation)

pub returns-clause-sorted : goal.returns-clause-sorted
returns-clause-sorted c =
    let sorted = c.sort.new.listed in
    let put = with_items_is c.in_ok-sorted.sorted sorted (length_permutation c.deref_mut.result.now sorted c.sort.ensures.permutation ∙ c.deref_mut.ensures.len) in
    subst (IsNonDecreasingBy (λ (l : Listed). l.source.number)) (sym put) c.sort.ensures.sorted
