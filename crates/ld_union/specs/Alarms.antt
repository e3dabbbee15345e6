-- What it means that alarms are exact.
use Rattle.std.specs.Prelude.{ℕ, List, Option, None, MatchOption, option_map, slice_index_or}
use Rattle.ld_class.specs.Names.{PlainClass, plain_class}
use Rattle.ld_trace.specs.declared.event.State.{State}
use Rattle.ld_trace.specs.declared.event.State.TheVariants.{Hard, Soft}
use Rattle.ld_trace.specs.Sources.{PlainSource}
use Rattle.ld_union.specs.declared.alarms.Alarms.{Alarms}
use Rattle.ld_union.specs.Violations.{IsConflict, IsCycle, IsForbidden}

-- the alarms of five kinds, without where names lie in memory
pub record PlainAlarms : Type 0 where
  pub cycle : Option (PlainClass × PlainClass)
  pub conflict : State → Option PlainClass
  pub forbidden : State → Option (PlainClass × PlainClass)

-- where a state's alarms stand among those of both
abbrev pub state_place : State → ℕ
state_place Hard = 0
state_place Soft = 1

abbrev pub plain_alarms : Alarms → PlainAlarms
plain_alarms alarms = record {
  cycle = option_map {U = PlainClass × PlainClass} (λ p. (plain_class p.0, plain_class p.1)) alarms.cycle;
  conflict = λ state. option_map plain_class (slice_index_or alarms.conflict (state_place state) None);
  forbidden = λ state. option_map {U = PlainClass × PlainClass} (λ p. (plain_class p.0, plain_class p.1)) (slice_index_or alarms.forbidden (state_place state) None);
}

-- An alarm of one kind: it stands exactly where there is a violation of that kind, and names one. Which
-- one it names is open.
abbrev pub IsExact : {A : Type 0} → (A → Type 0) → Option A → Type 0
IsExact {A} IsOne alarm = MatchOption alarm (¬ ((x : A) × IsOne x)) IsOne

-- each of the five is exact
pub record AreExact (sources : List PlainSource) (alarms : PlainAlarms) : Type 0 where
  pub cycle : IsExact (λ p. IsCycle sources p.0 p.1) alarms.cycle
  pub conflict : (state : State) → IsExact (IsConflict sources state) (alarms.conflict state)
  pub forbidden : (state : State) → IsExact (λ p. IsForbidden sources state p.0 p.1) (alarms.forbidden state)
