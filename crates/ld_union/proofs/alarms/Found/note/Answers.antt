use Rattle.std.proofs.Common.{◌≡◌, List, subst, sym}
use Rattle.ld_class.specs.declared.usage.Usage.{Usage}
use Rattle.ld_graph.specs.declared.Edge.{Edge}
use Rattle.ld_trace.specs.declared.event.State.{State}
use Rattle.ld_trace.specs.declared.event.State.TheVariants.{Hard, Soft}
use Rattle.ld_union.specs.declared.usage.UsageRow.{UsageRow}
use Rattle.ld_union.specs.Inner.Delta.{Tells, TellsBits}
use Rattle.ld_union.specs.Inner.States.{of_state}
use Rattle.ld_union.specs.Inner.Union.{PlainUnion, edges_of}
use Rattle.ld_union.specs.Usage.{bits_of}
use Rattle.ld_union.specs.declared.alarms.Forbidden.{Forbidden}
use Rattle.ld_union.specs.Alarms.{IsExact}
use Rattle.ld_union.specs.Inner.Numbers.{IsConflictAt, IsForbiddenAt}
use Rattle.ld_union.proofs.alarms.Found.note.Goals as goal

pub returns : goal.returns
returns c = λ old tells are. record {
  cycle = c.closing-self.ensures;
  conflict = λ state. conflict (bits_of old.usage) tells.bits are.conflict state;
  forbidden = λ state. forbidden old tells are.forbidden state;
}
  where
    union : PlainUnion
    union = c.args.union.now

    all : List Edge
    all = edges_of c.args.union.now.dependencies

    usage : c.usage.result.now ≡ c.args.union.now.usage
    usage = c.usage.ensures.same

    usage_again : c.usage-2.result.now ≡ c.args.union.now.usage
    usage_again = c.usage-2.ensures.same

    tells_of : (before : List Usage) (rows : List UsageRow) → rows ≡ c.args.union.now.usage → TellsBits before (bits_of c.args.union.now.usage) c.args.delta.now.bits
        → TellsBits before (bits_of rows) c.bits-bits.result.now
    tells_of before rows same tells = subst (λ rs. TellsBits before (bits_of rs) c.bits-bits.result.now) (sym same)
        (subst (TellsBits before (bits_of c.args.union.now.usage)) (sym c.bits-bits.ensures) tells)

    conflict : (before : List Usage) → TellsBits before (bits_of c.args.union.now.usage) c.args.delta.now.bits
        → ((state : State) → IsExact (IsConflictAt before state) (of_state c.args.self.now.conflict state)) → (state : State)
        → IsExact (IsConflictAt (bits_of c.args.union.now.usage) state) (of_state (record { hard = c.conflict_then.result; soft = c.conflict_then-2.result }) state)
    conflict before tells are Hard =
        subst (λ rows. IsExact (IsConflictAt (bits_of rows) Hard) c.conflict_then.result) usage (c.conflict_then.ensures before (tells_of before c.usage.result.now usage tells) (are Hard))
    conflict before tells are Soft =
        subst (λ rows. IsExact (IsConflictAt (bits_of rows) Soft) c.conflict_then-2.result) usage_again
        (c.conflict_then-2.ensures before (tells_of before c.usage-2.result.now usage_again tells) (are Soft))

    forbidden : (old : PlainUnion) → Tells old c.args.union.now c.args.delta.now
        → ((state : State) → IsExact (λ (w : Forbidden). IsForbiddenAt (edges_of old.dependencies) (bits_of old.usage) state w.from w.to) (of_state c.args.self.now.forbidden state))
        → (state : State) → IsExact (λ (w : Forbidden). IsForbiddenAt all (bits_of c.args.union.now.usage) state w.from w.to)
        (of_state (record { hard = c.forbidden_then.result; soft = c.forbidden_then-2.result }) state)
    forbidden old tells are Hard = c.forbidden_then.ensures old tells (are Hard)
    forbidden old tells are Soft = c.forbidden_then-2.ensures old tells (are Soft)
