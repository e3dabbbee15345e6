-- *Union*: what the sources that are read show together, and where it was first seen.
use Rattle.std.specs.Prelude.{Bool, ◌&&◌, ◌||◌, ◌==◌, nat_lt, List, [], map, flat_map}
use Rattle.std.specs.Prelude.{filter_map, Option, option_map, if◌then◌else◌}
use Rattle.std.specs.List.{reduce}
use Rattle.ld_class.specs.Names.{PlainClass, same_class}
use Rattle.ld_trace.specs.Sources.{PlainSource}
use Rattle.ld_trace.specs.Events.{positions}
use Rattle.ld_rules.specs.declared.outcome.Outcome.{Outcome}
use Rattle.ld_rules.specs.declared.outcome.Outcome.TheVariants.{Read, Refused}
use Rattle.ld_rules.specs.declared.outcome.Witness.{Witness}
use Rattle.ld_rules.specs.Outcome.{outcome, classes, events, each_once}
use Rattle.ld_rules.specs.Dependency.{Dependency, Seen, dependencies_at, same_dependency, seen}
use Rattle.ld_rules.specs.Dependency.{least_line}
use Rattle.ld_rules.specs.Usage.{Use, uses_at, same_use}

-- what a source shows, where it is read; nothing where it is refused
abbrev pub if_read : {A : Type 0} → Outcome → List A → List A
if_read (Read count) shown = shown
if_read (Refused line fault) shown = []

-- the classes of a source, in order of first acquisition
abbrev pub classes_of : PlainSource → List PlainClass
classes_of source = if_read (outcome source) (classes (events (positions source)))

-- the dependencies of a source, with the lines at which they stand, in order of line
abbrev pub dependencies_of : PlainSource → List (Seen Dependency)
dependencies_of source = if_read (outcome source) (seen dependencies_at (positions source))

-- the same of its usage
abbrev pub uses_of : PlainSource → List (Seen Use)
uses_of source = if_read (outcome source) (seen uses_at (positions source))

-- a witness is (source number, line), ordered by number, then by line
abbrev pub is_before : Witness → Witness → Bool
is_before a b = nat_lt a.number b.number || (a.number == b.number && nat_lt a.line b.line)

abbrev pub earlier : Witness → Witness → Witness
earlier a b = if is_before b a then b else a

-- the least of these
abbrev pub first_of : List Witness → Option Witness
first_of witnesses = reduce earlier witnesses

-- the first witness, over these sources, of something that sources show: in each source the least
-- line
abbrev pub first_witness : {A : Type 0} → (A → A → Bool) → (PlainSource → List (Seen A))
    → List PlainSource → A → Option Witness
first_witness same shown sources what =
    first_of (filter_map (λ source.
    option_map (λ line. record { number = source.number; line = line })
    (least_line same (shown source) what))
    sources)

-- the classes of the union, each once
abbrev pub union_classes : List PlainSource → List PlainClass
union_classes sources = each_once same_class (flat_map classes_of sources)

-- the dependencies of the union, each once
abbrev pub union_dependencies : List PlainSource → List Dependency
union_dependencies sources =
    each_once same_dependency
    (flat_map (λ source. map (λ s. s.what) (dependencies_of source)) sources)

-- the first witness of a dependency and of a use, and nothing where it isn't in the union
abbrev pub dependency_witness : List PlainSource → Dependency → Option Witness
dependency_witness sources dependency =
    first_witness same_dependency dependencies_of sources dependency

abbrev pub use_witness : List PlainSource → Use → Option Witness
use_witness sources what = first_witness same_use uses_of sources what
