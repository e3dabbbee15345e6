use Rattle.std.proofs.Common.{rules, ◌<◌, ℕ, get_or, length, map, ap, subst, sym, ◌∙◌, arith}
use Rattle.std.specs.List.Sorted.{IsPermutation}
use Rattle.std.proofs.lemmas.List.{length-map}
use Rattle.std.proofs.lemmas.List.Sorted.{IsNonDecreasingBy-from_sort, answers_always, length_permutation}
use Rattle.ld_order.specs.declared.sorted.Labelled.{Labelled}
use Rattle.ld_order.specs.Inner.Labels.{labelled, node_of}
use Rattle.ld_order.proofs.SortedLemmas.{arranged_rising, arranged_same}
use Rattle.ld_order.proofs.sorted.arrange.Goals as goal

pub take_nodes-requires : goal.take_nodes-requires
take_nodes-requires c =
    let p : IsPermutation (map (labelled c.args.labels.now) c.args.classes.now) c.sort_unstable_by_key.new.self.items =
    subst (λ l. IsPermutation l c.sort_unstable_by_key.new.self.items) c.label_all.ensures.items c.sort_unstable_by_key.ensures.permutation in
    let l = length_permutation (map (labelled c.args.labels.now) c.args.classes.now) c.sort_unstable_by_key.new.self.items p in
    let n = length-map c.args.classes.now (labelled c.args.labels.now) in
    let v = ap length c.deref.ensures.value in
    record { room = omega (arith, l, n, v, c.requires.room) }

pub returns-clause-same : goal.returns-clause-same
returns-clause-same c =
    let p : IsPermutation (map (labelled c.args.labels.now) c.args.classes.now) c.sort_unstable_by_key.new.self.items =
    subst (λ l. IsPermutation l c.sort_unstable_by_key.new.self.items) c.label_all.ensures.items c.sort_unstable_by_key.ensures.permutation in
    let e = c.take_nodes.ensures.items ∙ ap (map (λ (e : Labelled). e.node)) c.deref.ensures.value in
    subst (IsPermutation (map node_of c.args.classes.now)) (sym e)
    (arranged_same c.args.labels.now c.args.classes.now c.sort_unstable_by_key.new.self.items p)

pub returns-clause-rising : goal.returns-clause-rising
returns-clause-rising c =
    let p : IsPermutation (map (labelled c.args.labels.now) c.args.classes.now) c.sort_unstable_by_key.new.self.items =
    subst (λ l. IsPermutation l c.sort_unstable_by_key.new.self.items) c.label_all.ensures.items c.sort_unstable_by_key.ensures.permutation in
    let e = c.take_nodes.ensures.items ∙ ap (map (λ (e : Labelled). e.node)) c.deref.ensures.value in
    subst (λ s. (j k : ℕ) → j < k → k < length s → get_or c.args.labels.now (get_or s j 0) 0 < get_or c.args.labels.now (get_or s k 0) 0) (sym e)
    (arranged_rising c.args.labels.now c.args.classes.now c.sort_unstable_by_key.new.self.items p
    (IsNonDecreasingBy-from_sort (λ (l : Labelled). l.label) c.sort_unstable_by_key.new.self.items
    (c.sort_unstable_by_key.ensures.sorted (λ (l : Labelled). l.label) (answers_always _ _ _ (λ f a r g called. search rules))))
    c.requires.classes c.requires.once c.requires.apart)
