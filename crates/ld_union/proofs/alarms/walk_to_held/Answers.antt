use Rattle.std.proofs.Common.{rules, ◌≡◌, ◌≢◌, All, ℕ, arith, get_or, subst}
use Rattle.std.proofs.lemmas.List.{take_all}
use Rattle.std.proofs.lemmas.List.Elements.{All-more}
use Rattle.ld_class.specs.Usage.{no_bits}
use Rattle.ld_rules.specs.Usage.{usage_of}
use Rattle.ld_rules.specs.Usage.Bit.{On}
use Rattle.ld_union.specs.Inner.Numbers.{IsForbiddenAt}
use Rattle.ld_union.specs.declared.delta.NewBit.{NewBit}
use Rattle.ld_union.specs.Inner.Union.{edges_of}
use Rattle.ld_union.specs.Usage.{bits_of}
use Rattle.ld_union.proofs.alarms.walk_to_held.Goals as goal
use Rattle.ld_union.proofs.alarms.walk_to_held.Goals.{else-eq, then-eq+in_default}

abbrev no_bit : NewBit
no_bit = record { class = 0; bit = no_bits }

pub loop-told-preserved : goal.loop-told-preserved
loop-told-preserved c =
    let bits = c.args.bits.now in
    let i = c.loop-told.told-index in
    let Looked : NewBit → Type 0 = λ told. told.bit ≡ usage_of (On c.args.state) → (from : ℕ)
    → ¬ IsForbiddenAt (edges_of c.args.union.now.dependencies) (bits_of c.args.union.now.usage) c.args.state from told.class in
    elim c.if-eq.branch [
      | then-eq+in_default w ↦ All-more Looked bits i no_bit c.loop-told-test.true c.loop-told.invariant (λ is. w.in_default.ensures)
      | else-eq w ↦
          let other : (get_or bits i no_bit).bit ≢ usage_of (On c.args.state) = search rules in
          All-more Looked bits i no_bit c.loop-told-test.true c.loop-told.invariant (λ is. absurd (other is))
    ]

pub returns : goal.returns
returns c =
    subst (All (λ (told : NewBit). told.bit ≡ usage_of (On c.args.state) → (from : ℕ)
    → ¬ IsForbiddenAt (edges_of c.args.union.now.dependencies) (bits_of c.args.union.now.usage) c.args.state from told.class))
    (take_all c.loop-told.told-index c.args.bits.now (omega arith)) c.loop-told.invariant
