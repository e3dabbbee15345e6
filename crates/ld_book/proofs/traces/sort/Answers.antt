use Rattle.std.proofs.Common.{rules}
use Rattle.std.proofs.lemmas.List.Sorted.{IsNonDecreasingBy-from_sort, IsPermutation-trans, answers_always}
use Rattle.ld_book.proofs.traces.sort.Goals as goal

pub returns-then-not-are_in_order-clause-permutation : goal.returns-then-not-are_in_order-clause-permutation
returns-then-not-are_in_order-clause-permutation c =
    IsPermutation-trans c.args.listed.now c.put_in_place.new.listed c.sort_unstable_by_key.new.self c.put_in_place.ensures c.sort_unstable_by_key.ensures.permutation

pub returns-then-not-are_in_order-clause-sorted : goal.returns-then-not-are_in_order-clause-sorted
returns-then-not-are_in_order-clause-sorted c =
    IsNonDecreasingBy-from_sort (λ l. l.source.number) c.sort_unstable_by_key.new.self
    (c.sort_unstable_by_key.ensures.sorted (λ l. l.source.number) (answers_always _ _ _ (λ f a r g called. search rules)))
