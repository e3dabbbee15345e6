-- What the alarms say of the verdict.
use Rattle.std.proofs.Common.{◌≡◌, ◌||◌, true, false, Bool, List, Option, Some, None, is_some, option_map, slice_index_or, refl, sym}
use Rattle.std.proofs.lemmas.Bool.{true≢false}
use Rattle.ld_trace.specs.declared.event.State.TheVariants.{Hard, Soft}
use Rattle.ld_trace.specs.Sources.{PlainSource}
use Rattle.ld_book.specs.OfUnion.declared.alarms.Alarms.{Alarms}
use Rattle.ld_book.specs.Alarms.{AreExact, IsExact, plain_alarms}
use Rattle.ld_book.specs.Violations.{HasViolation, IsViolation, Violation}
use Rattle.ld_book.specs.Violations.Violation.{Conflict, Cycle, Forbidden}
use Rattle.ld_report.specs.Inner.Alarms.{any_stands}

-- an alarm that stands names one
stands : {A B : Type 0} (IsOne : B → Type 0) (f : A → B) (alarm : Option A) → IsExact IsOne (option_map f alarm) → is_some alarm ≡ true → (x : B) × IsOne x
stands IsOne f None exact there = absurd (true≢false (sym there))
stands IsOne f (Some x) exact there = (f x, exact)

-- where it doesn't, there is none
rests : {A B : Type 0} (IsOne : B → Type 0) (f : A → B) (alarm : Option A) → IsExact IsOne (option_map f alarm) → is_some alarm ≡ false → (x : B) → ¬ IsOne x
rests IsOne f None exact none x one = exact (x, one)
rests IsOne f (Some y) exact none x one = absurd (true≢false none)

module _ (sources : List PlainSource) (alarms : Alarms) (exact : AreExact sources (plain_alarms alarms)) where
  -- an alarm that stands is of a violation
  pub violation_from_alarm : any_stands alarms ≡ true → HasViolation sources
  violation_from_alarm = by (is_some alarms.cycle) (is_some (slice_index_or alarms.conflict 0 None)) (is_some (slice_index_or alarms.conflict 1 None))
      (is_some (slice_index_or alarms.forbidden 0 None)) (is_some (slice_index_or alarms.forbidden 1 None)) refl refl refl refl refl
    where
      by : (a b c d e : Bool) → is_some alarms.cycle ≡ a → is_some (slice_index_or alarms.conflict 0 None) ≡ b → is_some (slice_index_or alarms.conflict 1 None) ≡ c
          → is_some (slice_index_or alarms.forbidden 0 None) ≡ d → is_some (slice_index_or alarms.forbidden 1 None) ≡ e → (a || ((b || c) || (d || e))) ≡ true → HasViolation sources
      by true b c d e p q r s t there = let one = stands _ _ alarms.cycle exact.cycle p in (Cycle one.0.0 one.0.1, one.1)
      by false true c d e p q r s t there = let one = stands _ _ (slice_index_or alarms.conflict 0 None) (exact.conflict Hard) q in (Conflict Hard one.0, one.1)
      by false false true d e p q r s t there = let one = stands _ _ (slice_index_or alarms.conflict 1 None) (exact.conflict Soft) r in (Conflict Soft one.0, one.1)
      by false false false true e p q r s t there = let one = stands _ _ (slice_index_or alarms.forbidden 0 None) (exact.forbidden Hard) s in (Forbidden Hard one.0.0 one.0.1, one.1)
      by false false false false true p q r s t there = let one = stands _ _ (slice_index_or alarms.forbidden 1 None) (exact.forbidden Soft) t in (Forbidden Soft one.0.0 one.0.1, one.1)
      by false false false false false p q r s t there = absurd (true≢false (sym there))

  -- where none stands there is no violation
  pub no_violation_from_alarms : any_stands alarms ≡ false → ¬ HasViolation sources
  no_violation_from_alarms = by (is_some alarms.cycle) (is_some (slice_index_or alarms.conflict 0 None))
      (is_some (slice_index_or alarms.conflict 1 None)) (is_some (slice_index_or alarms.forbidden 0 None)) (is_some (slice_index_or alarms.forbidden 1 None)) refl refl refl refl refl
    where
      none : is_some alarms.cycle ≡ false → is_some (slice_index_or alarms.conflict 0 None) ≡ false → is_some (slice_index_or alarms.conflict 1 None) ≡ false
          → is_some (slice_index_or alarms.forbidden 0 None) ≡ false → is_some (slice_index_or alarms.forbidden 1 None) ≡ false → (v : Violation) → ¬ IsViolation sources v
      none p q r s t (Cycle from to) one = rests _ _ alarms.cycle exact.cycle p (from, to) one
      none p q r s t (Conflict Hard class) one = rests _ _ (slice_index_or alarms.conflict 0 None) (exact.conflict Hard) q class one
      none p q r s t (Conflict Soft class) one = rests _ _ (slice_index_or alarms.conflict 1 None) (exact.conflict Soft) r class one
      none p q r s t (Forbidden Hard from to) one = rests _ _ (slice_index_or alarms.forbidden 0 None) (exact.forbidden Hard) s (from, to) one
      none p q r s t (Forbidden Soft from to) one = rests _ _ (slice_index_or alarms.forbidden 1 None) (exact.forbidden Soft) t (from, to) one

      by : (a b c d e : Bool) → is_some alarms.cycle ≡ a → is_some (slice_index_or alarms.conflict 0 None) ≡ b → is_some (slice_index_or alarms.conflict 1 None) ≡ c
          → is_some (slice_index_or alarms.forbidden 0 None) ≡ d → is_some (slice_index_or alarms.forbidden 1 None) ≡ e → (a || ((b || c) || (d || e))) ≡ false → ¬ HasViolation sources
      by false false false false false p q r s t rest has = none p q r s t has.0 has.1
      by true b c d e p q r s t rest has = absurd (true≢false rest)
      by false true c d e p q r s t rest has = absurd (true≢false rest)
      by false false true d e p q r s t rest has = absurd (true≢false rest)
      by false false false true e p q r s t rest has = absurd (true≢false rest)
      by false false false false true p q r s t rest has = absurd (true≢false rest)
