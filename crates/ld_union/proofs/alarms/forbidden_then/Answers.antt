use Rattle.std.proofs.Common.{◌∙◌, ◌<◌, ℕ, All, drop, length, subst, sym}
use Rattle.std.proofs.lemmas.List.{take_rest}
use Rattle.ld_union.specs.declared.alarms.Forbidden.{Forbidden}
use Rattle.ld_union.specs.Inner.Numbers.{IsForbiddenAt}
use Rattle.ld_union.specs.Inner.Union.{edges_of}
use Rattle.ld_union.specs.declared.delta.NewBit.{NewBit}
use Rattle.ld_union.specs.Usage.{bits_of}
use Rattle.ld_union.proofs.DeltaLemmas.{told_within}
use Rattle.ld_union.proofs.FoundLemmas.{edges_kept, forbidden_kept, forbidden_looked, stays}
use Rattle.ld_union.proofs.alarms.forbidden_then.Goals as goal

pub returns-then-is_some : goal.returns-then-is_some
returns-then-is_some c = λ old tells exact.
    let union = c.args.union.now in
    let edges = edges_of old.dependencies in
    let all = edges_of union.dependencies in
    let usage = bits_of old.usage in
    let now = bits_of union.usage in
    let state = c.args.state in
    stays (λ (w : Forbidden). IsForbiddenAt edges usage state w.from w.to) (λ (w : Forbidden). IsForbiddenAt all now state w.from w.to)
    (forbidden_kept state usage now tells.bits.kept edges all (edges_kept edges all (length old.dependencies) tells.front)) c.args.found exact (sym c.is_some.ensures ∙ c.if-is_some.true)

pub walk_to_held-requires : goal.walk_to_held-requires
walk_to_held-requires c =
    let union = c.args.union.now in
    let bits = c.args.delta.now.bits in
    rw c.bits.ensures
    (subst (λ n. All (λ (told : NewBit). told.class < n) bits) c.reached.ensures.rows (told_within (bits_of c.requires.0.usage) union.usage bits c.requires.1.bits))

pub returns : goal.returns
returns c = λ old tells exact.
    let union = c.args.union.now in
    let delta = c.args.delta.now in
    let state = c.args.state in
    forbidden_looked old union delta tells state c.reached.ensures.each c.args.found c.walk_to_held.result (sym c.is_some.ensures ∙ c.if-is_some.false) exact
    (subst (All (λ class. (from : ℕ) → ¬ IsForbiddenAt (edges_of union.dependencies) (bits_of union.usage) state from class))
    (take_rest c.reached.result.now c.first_reached.result ∙ (λ i. drop (c.first_reached.ensures i) (c.reached.ensures.same i))) c.in_default.ensures)
    (rw (← c.bits.ensures) c.walk_to_held.ensures)
