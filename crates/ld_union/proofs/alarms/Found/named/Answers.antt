use Rattle.std.proofs.Common.{◌≡◌, ◌∷◌, [], None, get_or, option_map}
use Rattle.ld_class.specs.Names.{PlainClass, no_class, plain_class}
use Rattle.ld_trace.specs.declared.event.State.{State}
use Rattle.ld_trace.specs.declared.event.State.TheVariants.{Hard, Soft}
use Rattle.ld_union.specs.Alarms.{state_place}
use Rattle.ld_union.specs.Inner.Numbers.{named_pair}
use Rattle.ld_union.specs.Inner.States.{of_state}
use Rattle.ld_union.proofs.alarms.Found.named.Goals as goal

pub class_name-requires : goal.class_name-requires
class_name-requires c = c.requires.conflict Hard

pub class_name-requires-2 : goal.class_name-requires-2
class_name-requires-2 c = c.requires.conflict Soft

pub end_names-requires : goal.end_names-requires
end_names-requires c = c.requires.forbidden Hard

pub end_names-requires-2 : goal.end_names-requires-2
end_names-requires-2 c = c.requires.forbidden Soft

pub returns : goal.returns
returns c = λ i. record {
  cycle = c.edge_names.ensures i;
  conflict = λ state. conflict state i;
  forbidden = λ state. forbidden state i;
}
  where
    conflict : (state : State) → option_map plain_class (get_or (c.class_name.result ∷ c.class_name-2.result ∷ []) (state_place state) None)
        ≡ option_map (λ class. get_or c.args.classes.now class no_class) (of_state c.args.self.now.conflict state)
    conflict Hard = c.class_name.ensures
    conflict Soft = c.class_name-2.ensures

    forbidden : (state : State) → option_map {U = PlainClass × PlainClass} (λ p. (plain_class p.0, plain_class p.1)) (get_or (c.end_names.result ∷ c.end_names-2.result ∷ []) (state_place state) None)
        ≡ option_map (λ w. named_pair c.args.classes.now w.from w.to) (of_state c.args.self.now.forbidden state)
    forbidden Hard = c.end_names.ensures
    forbidden Soft = c.end_names-2.ensures
