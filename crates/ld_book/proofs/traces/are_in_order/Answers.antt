use Rattle.std.proofs.Common.{rules, List, ℕ, ◌≡◌, ◌<◌, ◌≤◌, ◌-◌, ◌⊎◌, inl, inr, arith, get_or, length, ap}
use Rattle.std.proofs.lemmas.Bool.{cases_order}
use Rattle.std.proofs.lemmas.List.{get_or_default}
use Rattle.ld_rules.specs.declared.outcome.Listed.{Listed}
use Rattle.ld_book.proofs.traces.are_in_order.Goals as goal

-- what stands at two places, by any defaults
not_falling : (xs : List Listed) (a b : ℕ) (e f d : Listed) → a < length xs → b < length xs → (get_or xs a e).source.number ≤ (get_or xs b f).source.number
    → (get_or xs a d).source.number ≤ (get_or xs b d).source.number
not_falling xs a b e f d within inside low =
    let before = ap (λ (l : Listed). l.source.number) (get_or_default xs a e d within) in
    let here = ap (λ (l : Listed). l.source.number) (get_or_default xs b f d inside) in
    omega (arith, low, before, here)

pub loop-place-preserved : goal.loop-place-preserved
loop-place-preserved c i j d le below = by (cases_order j c.loop-place.place)
  where
    first : 0 < c.loop-place.place
    first = search rules

    inside : c.loop-place.place < length c.args.listed.now
    inside = search rules

    -- the last two don't fall
    step : (get_or c.args.listed.now (c.loop-place.place - 1) d).source.number ≤ (get_or c.args.listed.now c.loop-place.place d).source.number
    step = not_falling c.args.listed.now (c.loop-place.place - 1) c.loop-place.place _ _ d (omega (arith, inside)) inside c.if-listed-place.false

    by : (j ≡ c.loop-place.place) ⊎ ((j < c.loop-place.place) ⊎ (c.loop-place.place < j)) → (get_or c.args.listed.now i d).source.number ≤ (get_or c.args.listed.now j d).source.number
    by (inl same) = at_last (cases_order i c.loop-place.place)
      where
        here : (get_or c.args.listed.now j d).source.number ≡ (get_or c.args.listed.now c.loop-place.place d).source.number
        here = ap (λ k. (get_or c.args.listed.now k d).source.number) same

        at_last : (i ≡ c.loop-place.place) ⊎ ((i < c.loop-place.place) ⊎ (c.loop-place.place < i)) → (get_or c.args.listed.now i d).source.number ≤ (get_or c.args.listed.now j d).source.number
        at_last (inl both) =
            let there = ap (λ k. (get_or c.args.listed.now k d).source.number) both in omega (arith, there, here)
        at_last (inr (inl less)) =
            let before = c.loop-place.invariant i (c.loop-place.place - 1) d (omega (arith, less)) (omega (arith, first)) in
            omega (arith, before, step, here)
        at_last (inr (inr more)) = absurd (omega (arith, more, le, same))
    by (inr (inl less)) = c.loop-place.invariant i j d le less
    by (inr (inr more)) = absurd (omega (arith, more, below))
