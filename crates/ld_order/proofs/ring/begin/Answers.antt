use Rattle.std.proofs.Common.{◌≡◌, ◌++◌, ◌∷◌, [], ◌∙◌, List, ℕ, true, ap, arith, length, refl, subst, sym, rules, vec_len}
use Rattle.std.proofs.lemmas.Bool.{eqb-true}
use Rattle.ld_order.specs.Inner.Kept.{ranks_of}
use Rattle.ld_order.proofs.AppendLemmas.{ring_of_head}
use Rattle.ld_order.proofs.ring.begin.Goals as goal

none_of : (xs : List ℕ) → length xs ≡ 0 → xs ≡ []
none_of [] e = refl
none_of (x ∷ xs) e = absurd (omega (arith, e))

pub returns-clause-ring : goal.returns-clause-ring
returns-clause-ring c =
    let t : c.is_empty.result ≡ true = search rules in
    let n : vec_len c.args.labels.now ≡ 0 = eqb-true (vec_len c.args.labels.now) 0 (sym c.is_empty.ensures ∙ t) in
    let l : length c.args.labels.now.items ≡ 0 = omega (arith, n) in
    ring_of_head _ _ _
    (c.push_reserved.ensures.items ∙ ap (λ xs. xs ++ 0 ∷ []) (none_of c.args.labels.now.items l))
    (c.push_reserved-2.ensures.items ∙ ap (λ xs. xs ++ 0 ∷ []) (none_of c.args.next.now.items (c.requires.next_len ∙ l)))
    (c.push_reserved-3.ensures.items ∙ ap (λ xs. xs ++ 0 ∷ []) (none_of c.args.prev.now.items (c.requires.prev_len ∙ l)))

pub returns-clause-ranks : goal.returns-clause-ranks
returns-clause-ranks c =
    let t : c.is_empty.result ≡ true = search rules in
    let n : vec_len c.args.labels.now ≡ 0 = eqb-true (vec_len c.args.labels.now) 0 (sym c.is_empty.ensures ∙ t) in
    let l : length c.args.labels.now.items ≡ 0 = omega (arith, n) in
    let e = none_of c.args.labels.now.items l in
    ap ranks_of (c.push_reserved.ensures.items ∙ ap (λ xs. xs ++ 0 ∷ []) e) ∙ sym (ap ranks_of e)
