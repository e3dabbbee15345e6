-- From a cursor on there is one list of items, and one end.
use Rattle.std.proofs.Common.{ℕ, ◌≡◌, ◌∙◌, List, ◌∷◌, Option, Some, refl, ap, subst, sym}
use Rattle.ld_pages.specs.declared.layout.Layout.{Layout}
use Rattle.ld_pages.specs.declared.cursor.Cursor.{Cursor}
use Rattle.ld_pages.specs.declared.cursor.Fault.{Fault}
use Rattle.ld_pages.specs.declared.cursor.Item.{Item}
use Rattle.ld_pages.specs.declared.cursor.Step.TheVariants as steps
use Rattle.ld_pages.specs.Reads.{Reads, ended, wrong, goes, gives}

ended-wrong : (f : Fault) → steps.Ended ≡ steps.Wrong f → ⊥
ended-wrong f h = cc

ended-goes : (d : Cursor) → steps.Ended ≡ steps.Goes d → ⊥
ended-goes d h = cc

ended-gives : (i : Item) (d : Cursor) → steps.Ended ≡ steps.Gives i d → ⊥
ended-gives i d h = cc

wrong-goes : (f : Fault) (d : Cursor) → steps.Wrong f ≡ steps.Goes d → ⊥
wrong-goes f d h = cc

wrong-gives : (f : Fault) (i : Item) (d : Cursor) → steps.Wrong f ≡ steps.Gives i d → ⊥
wrong-gives f i d h = cc

goes-gives : (d e : Cursor) (i : Item) → steps.Goes d ≡ steps.Gives i e → ⊥
goes-gives d e i h = cc

same-fault : (f g : Fault) → steps.Wrong f ≡ steps.Wrong g → f ≡ g
same-fault f g h = cc

same-cursor : (d e : Cursor) → steps.Goes d ≡ steps.Goes e → d ≡ e
same-cursor d e h = cc

same-item : (i j : Item) (d e : Cursor) → steps.Gives i d ≡ steps.Gives j e → i ≡ j
same-item i j d e h = cc

same-behind : (i j : Item) (d e : Cursor) → steps.Gives i d ≡ steps.Gives j e → d ≡ e
same-behind i j d e h = cc

pub one_reading : {l : Layout} {bytes : List ℕ} {c : Cursor} {is js : List Item} {f g : Option Fault}
    → Reads l bytes c is f → Reads l bytes c js g → (is ≡ js) × (f ≡ g)
one_reading (ended s) (ended t) = (refl, refl)
one_reading (ended s) (wrong t) = absurd (ended-wrong _ (sym s ∙ t))
one_reading (ended s) (goes t q) = absurd (ended-goes _ (sym s ∙ t))
one_reading (ended s) (gives t q) = absurd (ended-gives _ _ (sym s ∙ t))
one_reading (wrong s) (ended t) = absurd (ended-wrong _ (sym t ∙ s))
one_reading (wrong s) (wrong t) = (refl, ap Some (same-fault _ _ (sym s ∙ t)))
one_reading (wrong s) (goes t q) = absurd (wrong-goes _ _ (sym s ∙ t))
one_reading (wrong s) (gives t q) = absurd (wrong-gives _ _ _ (sym s ∙ t))
one_reading (goes s p) (ended t) = absurd (ended-goes _ (sym t ∙ s))
one_reading (goes s p) (wrong t) = absurd (wrong-goes _ _ (sym t ∙ s))
one_reading {l = l} {bytes = bytes} {js = js} {g = g} (goes s p) (goes t q) =
    one_reading p (subst (λ d. Reads l bytes d js g) (sym (same-cursor _ _ (sym s ∙ t))) q)
one_reading (goes s p) (gives t q) = absurd (goes-gives _ _ _ (sym s ∙ t))
one_reading (gives s p) (ended t) = absurd (ended-gives _ _ (sym t ∙ s))
one_reading (gives s p) (wrong t) = absurd (wrong-gives _ _ _ (sym t ∙ s))
one_reading (gives s p) (goes t q) = absurd (goes-gives _ _ _ (sym t ∙ s))
one_reading {l = l} {bytes = bytes} {g = g} (gives {i = i} {is = is} s p) (gives {i = j} {is = js} t q) =
    let rest = one_reading p (subst (λ d. Reads l bytes d js g) (sym (same-behind _ _ _ _ (sym s ∙ t))) q) in
    (ap (λ x. x ∷ is) (same-item _ _ _ _ (sym s ∙ t)) ∙ ap (λ xs. j ∷ xs) rest.0, rest.1)
