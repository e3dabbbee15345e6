use Rattle.std.proofs.Common.{rules, ◌≡◌, ◌∙◌, ◌<◌, ℕ, All, Contains, IsPermutation, IsSortedByKey, length, ap, sym, subst}
use Rattle.std.proofs.lemmas.Fn.{always_returns_same}
use Rattle.std.proofs.lemmas.Result.{IfOk-weaker}
use Rattle.ld_class.specs.declared.names.ClassName.{ClassName}
use Rattle.ld_class.specs.Names.{plain_class}
use Rattle.ld_union.specs.Findings.{IsBefore}
use Rattle.ld_union.specs.Inner.ByName.{class_at, class_name}
use Rattle.ld_union.proofs.ByNameLemmas.{numbers-count, numbers-every, numbers-rising, numbers-within}
use Rattle.ld_union.proofs.NameOrderLemmas.{class_cmp}
use Rattle.ld_union.proofs.by_name.numbers_by_name.Goals as goal

pub returns-clause-count : goal.returns-clause-count
returns-clause-count c =
    IfOk-weaker c.numbers_of.result _ _ (λ numbers is. ap length is
    ∙ numbers-count c.args.classes.now c.in_ok-named.named.items c.deref.result.now c.in_ok-named.ensures.names c.in_ok-named.ensures.numbers
    (subst (IsPermutation c.in_ok-named.named.items) (sym c.deref.ensures.value) c.sort_unstable_by_key.ensures.permutation)) c.numbers_of.ensures

pub returns-clause-within : goal.returns-clause-within
returns-clause-within c =
    IfOk-weaker c.numbers_of.result _ _ (λ numbers is. subst (All (λ k. k < length c.args.classes.now)) (sym is)
    (numbers-within c.args.classes.now c.in_ok-named.named.items c.deref.result.now c.in_ok-named.ensures.names c.in_ok-named.ensures.numbers
    (subst (IsPermutation c.in_ok-named.named.items) (sym c.deref.ensures.value) c.sort_unstable_by_key.ensures.permutation))) c.numbers_of.ensures

pub returns-clause-every : goal.returns-clause-every
returns-clause-every c =
    IfOk-weaker c.numbers_of.result _ _ (λ numbers is. subst (λ l. (k : ℕ) → k < length c.args.classes.now → Contains l k) (sym is)
    (numbers-every c.args.classes.now c.in_ok-named.named.items c.deref.result.now c.in_ok-named.ensures.names c.in_ok-named.ensures.numbers
    (subst (IsPermutation c.in_ok-named.named.items) (sym c.deref.ensures.value) c.sort_unstable_by_key.ensures.permutation))) c.numbers_of.ensures

pub returns-clause-rising : goal.returns-clause-rising
returns-clause-rising c =
    IfOk-weaker c.numbers_of.result _ _ (λ numbers is. subst
    (λ l. (i j : ℕ) → i < j → j < length l → IsBefore (class_name c.args.classes.now (class_at l i)) (class_name c.args.classes.now (class_at l j))) (sym is)
    (numbers-rising c.args.classes.now c.in_ok-named.named.items c.deref.result.now c.in_ok-named.ensures.names c.in_ok-named.ensures.numbers
    (subst (IsPermutation c.in_ok-named.named.items) (sym c.deref.ensures.value) c.sort_unstable_by_key.ensures.permutation)
    c.in_ok-named.ensures.distinct (subst (IsSortedByKey (λ p. plain_class p.0) class_cmp) (sym c.deref.ensures.value)
    (c.sort_unstable_by_key.ensures.sorted (λ (p : ClassName × ℕ). p.0) (always_returns_same _ (λ a r. r ≡ a.0.now.0) _ (λ a r f k. search rules)))))) c.numbers_of.ensures
