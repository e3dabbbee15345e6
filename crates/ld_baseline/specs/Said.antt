-- What a line of a report says of a violation, whatever its witnesses and the walk that it shows.
use Rattle.std.specs.Prelude.{ℕ, Bool, ◌&&◌, ◌||◌, ◌==◌, List, [], Option, Some, None, slice_index_or, codes, if◌then◌else◌}
use Rattle.std.specs.List.{slice_split}
use Rattle.std.specs.Str.{bytes_eq}
use Rattle.ld_baseline.specs.declared.said.Said.{Said}

-- the kind of the violation, its state, which is empty where the kind has none, its class or the first
-- of its two classes, and the second, which is empty where the kind has one class
pub record PlainSaid : Type 0 where
  pub kind : List ℕ
  pub state : List ℕ
  pub from : List ℕ
  pub to : List ℕ

abbrev pub plain_said : Said → PlainSaid
plain_said said = record { kind = said.kind.now; state = said.state.now; from = said.from.now; to = said.to.now }

abbrev pub same_said : PlainSaid → PlainSaid → Bool
same_said a b = bytes_eq a.kind b.kind && (bytes_eq a.state b.state && (bytes_eq a.from b.from && bytes_eq a.to b.to))

abbrev pub is_space : ℕ → Bool
is_space b = b == 32

-- field n, from 0, of a text that is cut at each space; empty where there is none
abbrev pub field : List ℕ → ℕ → List ℕ
field text n = slice_index_or (slice_split is_space text) n []

abbrev pub is_field : List ℕ → ℕ → List ℕ → Bool
is_field text n word = bytes_eq (field text n) word

-- the second field is a state
abbrev pub is_state : List ℕ → Bool
is_state text = is_field text 1 (codes "hard") || is_field text 1 (codes "soft")

-- `recursion A at ..`
abbrev pub is_recursion : List ℕ → Bool
is_recursion text = is_field text 0 (codes "recursion") && is_field text 2 (codes "at")

-- `inversion A -> B at ..`
abbrev pub is_inversion : List ℕ → Bool
is_inversion text = is_field text 0 (codes "inversion") && is_field text 2 (codes "->") && is_field text 4 (codes "at")

-- `conflict hard A {..} in ..`
abbrev pub is_conflict : List ℕ → Bool
is_conflict text = is_field text 0 (codes "conflict") && is_state text && is_field text 4 (codes "in")

-- `forbidden hard A {..} in T:L -> B {..} on ..`
abbrev pub is_forbidden : List ℕ → Bool
is_forbidden text =
    is_field text 0 (codes "forbidden") && is_state text && is_field text 4 (codes "in")
    && is_field text 6 (codes "->") && is_field text 9 (codes "on")

-- what a line without its end says; nothing where it is of none of these forms
abbrev pub said_by : List ℕ → Option PlainSaid
said_by text =
    if is_recursion text then Some (record { kind = field text 0; state = []; from = field text 1; to = [] })
    else if is_inversion text then Some (record { kind = field text 0; state = []; from = field text 1; to = field text 3 })
    else if is_conflict text then Some (record { kind = field text 0; state = field text 1; from = field text 2; to = [] })
    else if is_forbidden text then Some (record { kind = field text 0; state = field text 1; from = field text 2; to = field text 7 })
    else None
