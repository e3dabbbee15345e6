use Rattle.std.proofs.Common.{◌≡◌, ℕ, List, Result, Ok, Err, IfSome, OnOk, ap, fold, map, refl, subst, sym, take, ◌∙◌}
use Rattle.ld_tables.specs.declared.held.Held.{Held}
use Rattle.ld_tables.specs.declared.edges.EdgeFact.{EdgeFact}
use Rattle.ld_tables.specs.declared.masks.Mask.{Mask}
use Rattle.ld_tables.specs.declared.masks.NewEdges.{NewEdges}
use Rattle.ld_tables.specs.declared.masks.Word.{Word}
use Rattle.ld_tables.specs.Inner.Edges.{AreMasks, AreToldTo, classes_of, edge_to, edges_of, with_edge_fact}
use Rattle.ld_tables.proofs.ToldLemmas.{told-to}
use Rattle.ld_tables.proofs.edges.Edges.tell_to.Goals as goal

-- what is told by masks is told of their classes
by_masks : {E : Type 0} (r : Result (Unit {0}) E) (words : List Word) (masks : List Mask) (froms : List ℕ) (class line : ℕ) (old new : List EdgeFact) → AreMasks words class froms masks
    → OnOk r (new ≡ fold with_edge_fact old (map (edge_to class line) (classes_of words masks))) → OnOk r (AreToldTo froms class line old new)
by_masks (Ok u) words masks froms class line old new are told = told-to froms (classes_of words masks) class line old new are.same told
by_masks (Err e) words masks froms class line old new are told = tt

pub returns-in-Some-clause-told : goal.returns-in-Some-clause-told
returns-in-Some-clause-told c =
    by_masks c.tell.result c.args.self.now.words c.in-Some.masks.now (map (λ (h : Held). h.class) c.args.stack.now) c.args.class c.args.line (edges_of c.args.self.now.tellings) (edges_of c.tell.new.self.tellings)
    (subst (λ o. IfSome o (λ masks. AreMasks c.args.self.now.words c.args.class (map (λ (h : Held). h.class) c.args.stack.now) masks.now)) c.in-Some.is c.requires)
    c.tell.ensures.told

pub returns-in_ok-masks-in-None-clause-told : goal.returns-in_ok-masks-in-None-clause-told
returns-in_ok-masks-in-None-clause-told c =
    subst (λ (ts : List NewEdges). OnOk c.tell-in-None.result (AreToldTo (map (λ (h : Held). h.class) c.args.stack.now) c.args.class c.args.line (edges_of ts) (edges_of c.tell-in-None.new.self.tellings))) c.masks.ensures.tellings
    (by_masks c.tell-in-None.result c.masks.new.self.words c.deref.result.now (map (λ (h : Held). h.class) c.args.stack.now) c.args.class c.args.line (edges_of c.masks.new.self.tellings) (edges_of c.tell-in-None.new.self.tellings)
    (subst (AreMasks c.masks.new.self.words c.args.class (map (λ (h : Held). h.class) c.args.stack.now)) (sym c.deref.ensures.value) c.in_ok-masks-in-None.ensures.masks)
    c.tell-in-None.ensures.told)
