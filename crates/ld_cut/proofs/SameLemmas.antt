-- What traces show together is what some of them shows, wherever their lines stand.
use Rattle.std.proofs.Common.{◌≡◌, ◌∙◌, ◌+◌, ◌||◌, ◌++◌, ℕ, Bool, true, false, cond, List, [], ◌∷◌, length, map, filter, filter_map, flat_map, Option, Some, None, Ok, Err, option_map, refl, ap, sym}
use Rattle.std.specs.Prelude.{is_some}
use Rattle.std.proofs.lemmas.Grind.{flat_map-append}
use Rattle.std.proofs.lemmas.List.{map-append}
use Rattle.std.proofs.lemmas.List.Elements.{filter-append}
use Rattle.std.proofs.lemmas.List.Folds.{list_any-append}
use Rattle.std.specs.List.{cons_option, enumerate_from, list_any}
use Rattle.ld_class.proofs.NameLemmas.{same_class-Decides}
use Rattle.ld_class.specs.Names.{PlainClass, place_of, same_class}
use Rattle.ld_trace.specs.Lines.{lines, text_of}
use Rattle.ld_trace.specs.Sources.{PlainSource}
use Rattle.ld_trace.specs.Events.{PlainEvent, Position, Said, position_of, positions, said_by}
use Rattle.ld_rules.specs.declared.outcome.Outcome.{Outcome}
use Rattle.ld_rules.specs.declared.outcome.Outcome.TheVariants.{Read, Refused}
use Rattle.ld_rules.specs.declared.outcome.Witness.{Witness}
use Rattle.ld_rules.specs.Dependency.{Dependency, Seen, dependencies_at, least_line, same_dependency}
use Rattle.ld_rules.specs.Outcome.{classes, each_once, event_said, events, outcome}
use Rattle.ld_rules.specs.Union.{classes_of, dependencies_of, dependency_witness, first_of, first_witness, if_read, union_classes, use_witness, uses_of}
use Rattle.ld_rules.specs.Usage.{Use, same_use, uses_at}
use Rattle.ld_rules.proofs.PlaceLemmas.{alike_from_decides, any_each_once}
use Rattle.ld_rules.proofs.StepLemmas.{some_is_any}
use Rattle.ld_reduce.specs.OfBook.Totals.{is_refused}
use Rattle.ld_reduce.specs.Written.{counted_anew, counted_from, ended}
use Rattle.ld_reduce.proofs.MovedLemmas.{line_within, refused-same, within-same}
use Rattle.ld_reduce.proofs.TextLemmas.{ended-twice, texts-ended}
use Rattle.ld_cut.specs.Alike.{HaveSame, Whole, rejected, whole}

-- the texts of the lines of two traces are the same
abbrev HaveTexts : PlainSource → PlainSource → Type 0
HaveTexts s t = map text_of (lines s.bytes) ≡ map text_of (lines t.bytes)

-- what the texts of lines alone decide stays where traces are counted anew
counted-any : (f : PlainSource → Bool) → ((s t : PlainSource) → HaveTexts s t → f s ≡ f t) → (n line : ℕ) (all : List PlainSource) → list_any f (counted_from n line all) ≡ list_any f all
counted-any f same n line [] = refl
counted-any f same n line (s ∷ all) =
    let t : PlainSource = record { number = n; label = s.label; first_line = line + 2; bytes = ended s.bytes } in
    (λ i. same t s (texts-ended s.bytes) i || counted-any f same (n + 1) (line + 1 + length (lines (ended s.bytes))) all i)

-- Something that has a first witness.

module _ {A : Type 0} (same : A → A → Bool) (shown : PlainSource → List (Seen A)) (what : A) where
  -- a source shows it
  abbrev shows : PlainSource → Bool
  shows s = is_some (least_line same (shown s) what)

  any-shows : (sources : List PlainSource) → is_some (first_witness same shown sources what) ≡ list_any shows sources
  any-shows [] = refl
  any-shows (s ∷ sources) = by (least_line same (shown s) what) (any-shows sources)
    where
      by : (line : Option ℕ) → is_some (first_witness same shown sources what) ≡ list_any shows sources
          → is_some (first_of (cons_option (option_map (λ line. record { number = s.number; line = line }) line)
          (filter_map (λ source. option_map (λ line. record { number = source.number; line = line }) (least_line same (shown source) what)) sources)))
          ≡ (is_some line || list_any shows sources)
      by None rest = rest
      by (Some line) rest = refl

some-map : {A B : Type 0} (f : A → B) (o : Option A) → is_some (option_map f o) ≡ is_some o
some-map f None = refl
some-map f (Some x) = refl

shows-texts : {A : Type 0} (same : A → A → Bool) (at : List PlainEvent → PlainEvent → List A) (what : A) (s t : PlainSource) → HaveTexts s t
    → is_some (line_within same at what s) ≡ is_some (line_within same at what t)
shows-texts same at what s t texts = ap is_some (within-same same at what s t texts)

dependency-texts : (what : Dependency) (s t : PlainSource) → HaveTexts s t → shows same_dependency dependencies_of what s ≡ shows same_dependency dependencies_of what t
dependency-texts what s t texts =
    sym (some-map _ (least_line same_dependency (dependencies_of s) what)) ∙ shows-texts same_dependency dependencies_at what s t texts ∙ some-map _ (least_line same_dependency (dependencies_of t) what)

use-texts : (what : Use) (s t : PlainSource) → HaveTexts s t → shows same_use uses_of what s ≡ shows same_use uses_of what t
use-texts what s t texts =
    sym (some-map _ (least_line same_use (uses_of s) what)) ∙ shows-texts same_use uses_at what s t texts ∙ some-map _ (least_line same_use (uses_of t) what)

-- Classes.

-- a source has the class
abbrev has_class : PlainClass → PlainSource → Bool
has_class class s = list_any (same_class class) (classes_of s)

any-flat_map : {X Y : Type 0} (p : Y → Bool) (f : X → List Y) (xs : List X) → list_any p (flat_map f xs) ≡ list_any (λ x. list_any p (f x)) xs
any-flat_map p f [] = refl
any-flat_map p f (x ∷ xs) = list_any-append p (f x) (flat_map f xs) ∙ ap (λ b. list_any p (f x) || b) (any-flat_map p f xs)

any-class : (class : PlainClass) (sources : List PlainSource) → is_some (place_of (union_classes sources) class) ≡ list_any (has_class class) sources
any-class class sources =
    some_is_any (same_class class) (union_classes sources)
    ∙ any_each_once same_class (alike_from_decides same_class same_class-Decides) class (flat_map classes_of sources)
    ∙ any-flat_map (same_class class) classes_of sources

-- the events of a source by the texts of its lines
events-texts : (n : ℕ) (all : List (List ℕ)) → events (filter_map (λ p. position_of p.0 (said_by (text_of p.1))) (enumerate_from n all)) ≡ events (filter_map (λ p. position_of p.0 (said_by p.1)) (enumerate_from 0 (map text_of all)))
events-texts n all = from n 0 all
  where
    from : (n m : ℕ) (all : List (List ℕ)) → events (filter_map (λ p. position_of p.0 (said_by (text_of p.1))) (enumerate_from n all)) ≡ events (filter_map (λ p. position_of p.0 (said_by p.1)) (enumerate_from m (map text_of all)))
    from n m [] = refl
    from n m (line ∷ all) = by (said_by (text_of line)) (from (n + 1) (m + 1) all)
      where
        by : (said : Said)
            → events (filter_map (λ p. position_of p.0 (said_by (text_of p.1))) (enumerate_from (n + 1) all)) ≡ events (filter_map (λ p. position_of p.0 (said_by p.1)) (enumerate_from (m + 1) (map text_of all)))
            → events (cons_option (position_of n said) (filter_map (λ p. position_of p.0 (said_by (text_of p.1))) (enumerate_from (n + 1) all)))
            ≡ events (cons_option (position_of m said) (filter_map (λ p. position_of p.0 (said_by p.1)) (enumerate_from (m + 1) (map text_of all))))
        by (Ok None) rest = rest
        by (Ok (Some e)) rest = ap (λ es. e ∷ es) rest
        by (Err fault) rest = rest

events-same : (s t : PlainSource) → HaveTexts s t → events (positions s) ≡ events (positions t)
events-same s t texts =
    events-texts s.first_line (lines s.bytes)
    ∙ ap (λ all. events (filter_map (λ p. position_of p.0 (said_by p.1)) (enumerate_from 0 all))) texts
    ∙ sym (events-texts t.first_line (lines t.bytes))

if-refused : {A : Type 0} (o : Outcome) (xs : List A) → if_read o xs ≡ cond (is_refused o) [] xs
if-refused (Read count) xs = refl
if-refused (Refused line fault) xs = refl

classes-same : (s t : PlainSource) → HaveTexts s t → classes_of s ≡ classes_of t
classes-same s t texts =
    if-refused (outcome s) (classes (events (positions s)))
    ∙ (λ i. cond (refused-same s t texts i) [] (classes (events-same s t texts i)))
    ∙ sym (if-refused (outcome t) (classes (events (positions t))))

class-texts : (class : PlainClass) (s t : PlainSource) → HaveTexts s t → has_class class s ≡ has_class class t
class-texts class s t texts = ap (list_any (same_class class)) (classes-same s t texts)

-- Traces that are counted anew have the same.

pub counted-same : (all : List PlainSource) → HaveSame all (counted_anew all)
counted-same all = record {
  classes = λ class. any-class class all ∙ sym (counted-any (has_class class) (class-texts class) 0 0 all) ∙ sym (any-class class (counted_anew all));
  dependencies = λ what.
      any-shows same_dependency dependencies_of what all
      ∙ sym (counted-any (shows same_dependency dependencies_of what) (dependency-texts what) 0 0 all)
      ∙ sym (any-shows same_dependency dependencies_of what (counted_anew all));
  uses = λ what.
      any-shows same_use uses_of what all
      ∙ sym (counted-any (shows same_use uses_of what) (use-texts what) 0 0 all)
      ∙ sym (any-shows same_use uses_of what (counted_anew all));
}

rejected-from : (n line : ℕ) (all : List PlainSource) → rejected (counted_from n line all) ≡ rejected all
rejected-from n line [] = refl
rejected-from n line (s ∷ all) =
    let t : PlainSource = record { number = n; label = s.label; first_line = line + 2; bytes = ended s.bytes } in
    let more = line + 1 + length (lines (ended s.bytes)) in
    let same : whole t ≡ whole s = ap (λ bytes. record { label = s.label; bytes = bytes }) (ended-twice s.bytes) in
    (λ i. map whole (cond (refused-same t s (texts-ended s.bytes) i) (t ∷ filter (λ source. is_refused (outcome source)) (counted_from (n + 1) more all)) (filter (λ source. is_refused (outcome source)) (counted_from (n + 1) more all))))
    ∙ by (is_refused (outcome s)) same (rejected-from (n + 1) more all)
  where
    by : (b : Bool)
        → whole (record { number = n; label = s.label; first_line = line + 2; bytes = ended s.bytes }) ≡ whole s
        → rejected (counted_from (n + 1) (line + 1 + length (lines (ended s.bytes))) all) ≡ rejected all
        → map whole (cond b
        (record { number = n; label = s.label; first_line = line + 2; bytes = ended s.bytes } ∷ filter (λ source. is_refused (outcome source)) (counted_from (n + 1) (line + 1 + length (lines (ended s.bytes))) all))
        (filter (λ source. is_refused (outcome source)) (counted_from (n + 1) (line + 1 + length (lines (ended s.bytes))) all)))
        ≡ map whole (cond b (s ∷ filter (λ source. is_refused (outcome source)) all) (filter (λ source. is_refused (outcome source)) all))
    by true one rest = λ i. one i ∷ rest i
    by false one rest = rest

pub counted-rejected : (all : List PlainSource) → rejected all ≡ rejected (counted_anew all)
counted-rejected all = sym (rejected-from 0 0 all)

-- Traces one behind another.

either-same : {X : Type 0} (f : X → Bool) (xs ys zs ws : List X) → list_any f xs ≡ list_any f ys → list_any f zs ≡ list_any f ws → list_any f (xs ++ zs) ≡ list_any f (ys ++ ws)
either-same f xs ys zs ws first second = list_any-append f xs zs ∙ (λ i. first i || second i) ∙ sym (list_any-append f ys ws)

pub append-same : (xs ys zs ws : List PlainSource) → HaveSame xs ys → HaveSame zs ws → HaveSame (xs ++ zs) (ys ++ ws)
append-same xs ys zs ws first second = record {
  classes = λ class.
      any-class class (xs ++ zs)
      ∙ either-same (has_class class) xs ys zs ws
      (sym (any-class class xs) ∙ first.classes class ∙ any-class class ys) (sym (any-class class zs) ∙ second.classes class ∙ any-class class ws)
      ∙ sym (any-class class (ys ++ ws));
  dependencies = λ what.
      let any = any-shows same_dependency dependencies_of what in
      any (xs ++ zs)
      ∙ either-same (shows same_dependency dependencies_of what) xs ys zs ws
      (sym (any xs) ∙ first.dependencies what ∙ any ys) (sym (any zs) ∙ second.dependencies what ∙ any ws)
      ∙ sym (any (ys ++ ws));
  uses = λ what.
      let any = any-shows same_use uses_of what in
      any (xs ++ zs)
      ∙ either-same (shows same_use uses_of what) xs ys zs ws
      (sym (any xs) ∙ first.uses what ∙ any ys) (sym (any zs) ∙ second.uses what ∙ any ws)
      ∙ sym (any (ys ++ ws));
}

pub append-rejected : (xs ys : List PlainSource) → rejected (xs ++ ys) ≡ rejected xs ++ rejected ys
append-rejected xs ys =
    ap (map whole) (filter-append (λ source. is_refused (outcome source)) xs ys)
    ∙ map-append whole (filter (λ source. is_refused (outcome source)) xs) (filter (λ source. is_refused (outcome source)) ys)

pub then-same : (xs ys zs : List PlainSource) → HaveSame xs ys → HaveSame ys zs → HaveSame xs zs
then-same xs ys zs first second = record {
  classes = λ class. first.classes class ∙ second.classes class;
  dependencies = λ what. first.dependencies what ∙ second.dependencies what;
  uses = λ what. first.uses what ∙ second.uses what;
}

pub own-same : (xs : List PlainSource) → HaveSame xs xs
own-same xs = record { classes = λ class. refl; dependencies = λ what. refl; uses = λ what. refl }
