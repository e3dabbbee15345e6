use Rattle.std.proofs.Common.{◌≡◌, ◌⊎◌, inl, inr, ◌<◌, ◌≤◌, ◌+◌, ◌∙◌, ◌++◌, ◌∷◌, [], ℕ, List, Vec, Global, Contains, ap, arith, get_or, length, set, subst, sym}
use Rattle.std.proofs.lemmas.Bool.{cases_lt}
use Rattle.std.proofs.lemmas.List.{get_or_default, length-map, length-set}
use Rattle.std.proofs.lemmas.List.Elements.{Contains-get_or}
use Rattle.ld_graph.specs.Lists.{list_at}
use Rattle.ld_tree.specs.Inner.{items_of}
use Rattle.ld_tree.proofs.ListLemmas.{apart_at, items_at, set_other, set_same}
use Rattle.ld_tree.proofs.leading.push_each.Goals as goal

pub index_mut-requires : goal.index_mut-requires
index_mut-requires c =
    let w = c.requires.within (get_or c.args.near.now c.loop-x.x-index 0) (Contains-get_or c.args.near.now c.loop-x.x-index 0 c.loop-x-test.true) in
    omega (arith, w, c.loop-x.invariant.size, c.loop-x.lists.ok.0)

pub loop-x-preserved : goal.loop-x-preserved
loop-x-preserved c = record {
  size = let s = length-set lists x v in omega (arith, s, c.loop-x.invariant.size);
  on = λ k l. on k (cases_lt k c.loop-x.x-index) l;
  off = λ y none. set_other lists x low v y (λ e. none c.loop-x.x-index (omega arith) (sym e)) ∙ c.loop-x.invariant.off y (λ k l. none k (omega (arith, l)));
}
  where
    near : List ℕ
    near = c.args.near.now

    lists : List (Vec ℕ Global)
    lists = c.loop-x.lists.items

    v : Vec ℕ Global
    v = c.push.new.self

    x : ℕ
    x = get_or near c.loop-x.x-index 0

    low : x < length lists
    low = let w = c.requires.within x (Contains-get_or near c.loop-x.x-index 0 c.loop-x-test.true) in omega (arith, w, c.loop-x.invariant.size)

    on : (k : ℕ) → (k < c.loop-x.x-index) ⊎ (c.loop-x.x-index ≤ k) → k < c.loop-x.x-index + 1
        → list_at (items_of (set lists x v)) (get_or near k 0) ≡ list_at (items_of c.args.lists.now.items) (get_or near k 0) ++ c.args.class ∷ []
    on k (inl less) l = set_other lists x low v (get_or near k 0) (apart_at near c.requires.once k c.loop-x.x-index less c.loop-x-test.true) ∙ c.loop-x.invariant.on k less
    on k (inr past) l =
        let same : c.loop-x.x-index ≡ k = omega (arith, past, l) in
        subst (λ j. list_at (items_of (set lists x v)) (get_or near j 0) ≡ list_at (items_of c.args.lists.now.items) (get_or near j 0) ++ c.args.class ∷ []) same
        (set_same lists x low v ∙ c.in_ok-push.ensures.items ∙ ap (λ ns. ns ++ c.args.class ∷ [])
        (items_at lists x low c.index_mut.result.now c.index_mut.ensures.value ∙ c.loop-x.invariant.off x (λ j less e. apart_at near c.requires.once j c.loop-x.x-index less c.loop-x-test.true e)))

pub returns : goal.returns
returns c = record {
  pushed = record {
    len = length-map c.loop-x.lists.items _ ∙ c.loop-x.invariant.size ∙ sym (length-map c.args.lists.now.items _);
    on = λ x m.
        let b = m.1 in
        let same = get_or_default c.args.near.now m.0 0 x b ∙ m.2 in
        subst (λ y. list_at (items_of c.loop-x.lists.items) y ≡ list_at (items_of c.args.lists.now.items) y ++ c.args.class ∷ []) same
        (c.loop-x.invariant.on m.0 (omega (arith, b, c.loop-x-test.false)));
    off = λ x none. c.loop-x.invariant.off x (λ k l e. none (subst (Contains c.args.near.now) e (Contains-get_or c.args.near.now k 0 (omega (arith, l, c.loop-x.auto.x-index-end)))));
  };
}
