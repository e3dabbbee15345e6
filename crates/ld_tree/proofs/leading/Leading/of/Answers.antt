use Rattle.std.proofs.Common.{◌≡◌, ◌<◌, ◌∙◌, ℕ, [], Vec, ap, length, subst, sym}
use Rattle.std.proofs.lemmas.List.{get_or-map}
use Rattle.std.proofs.lemmas.List.{length-map}
use Rattle.std.proofs.lemmas.List.Elements.{Contains-get_or}
use Rattle.ld_graph.specs.Lists.{list_at}
use Rattle.ld_tree.specs.Inner.{AreLists}
use Rattle.ld_tree.specs.Trees.{AreInOrder, PlainLeading, nth}
use Rattle.ld_tree.proofs.leading.Leading.of.Goals as goal

pub returns : goal.returns
returns c = record {
  near = near;
  order = subst (AreInOrder c.args.self.now.places) (sym near) (are.order c.args.class);
  within = subst (λ ns. (k : ℕ) → k < length ns → nth ns k < length c.args.self.now.lists) (sym near)
      (λ k l. are.within c.args.class (nth (list_at c.args.self.now.lists c.args.class) k) (Contains-get_or (list_at c.args.self.now.lists c.args.class) k 0 l));
}
  where
    are : AreLists c.args.self.now.places c.args.self.now.lists
    are = subst (λ (l : PlainLeading). AreLists l.places l.lists) c.self.view_is c.self.invariant

    low : c.args.class < length c.self.inside.lists.items
    low = subst (λ n. c.args.class < n) (length-map c.self.inside.lists.items (λ (v : Vec _ _). v.items)) (subst (λ (l : PlainLeading). c.args.class < length l.lists) (sym c.self.view_is) c.requires)

    near : c.deref.result.now ≡ list_at c.args.self.now.lists c.args.class
    near = c.deref.ensures.value ∙ ap (λ (v : Vec _ _). v.items) c.index.ensures ∙ sym (get_or-map (λ (v : Vec _ _). v.items) c.self.inside.lists.items c.args.class c.index.result.now [] low)
        ∙ ap (λ (l : PlainLeading). list_at l.lists c.args.class) c.self.view_is
