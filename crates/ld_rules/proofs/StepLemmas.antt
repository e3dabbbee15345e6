-- The tasks, classes and dependencies of a trace after one more position, in the words of the code: names
-- are numbered as `Classes` numbers them, and a dependency is added where it isn't there yet.
use Rattle.std.proofs.Common.{◌≡◌, ◌+◌, ◌++◌, ◌∷◌, [], ◌||◌, List, Bool, true, false, not, cond, ltb, length, map, filter_map, fold, is_some}
use Rattle.std.proofs.Common.{position, Some, None, refl, ap, sym, ◌∙◌, arith, if◌then◌else◌}
use Rattle.std.proofs.lemmas.Bool.{lt-ltb, le-ltb}
use Rattle.std.proofs.lemmas.Bool.Decides.{nat_tests, Decides-and, Decides-like}
use Rattle.std.proofs.lemmas.List.{append-nil, map-append}
use Rattle.std.proofs.lemmas.List.Elements.{filter_map-append}
use Rattle.std.proofs.lemmas.List.Sums.{fold-append}
use Rattle.std.proofs.lemmas.Slice.Eq.{bytes_eq-Decides}
use Rattle.std.specs.Bool.{Decides}
use Rattle.std.specs.List.{cons_option, list_any, position_or_len}
use Rattle.std.specs.Str.{bytes_eq}
use Rattle.ld_class.specs.Names.{PlainClass, same_class, with_name, with_one, with_task}
use Rattle.ld_class.proofs.NameLemmas.{same_class-Decides}
use Rattle.ld_trace.specs.Events.{PlainEvent, Position}
use Rattle.ld_rules.specs.Frames.{task_of}
use Rattle.ld_rules.specs.Outcome.{each_once, tasks, classes, events}
use Rattle.ld_rules.specs.Held.{class_acquired}
use Rattle.ld_rules.specs.Dependency.{Dependency, Seen, same_dependency, dependencies_at, seen, seen_at}
use Rattle.ld_rules.specs.Inner.Scanned.{same_dependency_seen, with_new}
use Rattle.ld_rules.proofs.PlaceLemmas.{added-more, alike_from_decides, by_pushes, each_once-more}
use Rattle.ld_rules.proofs.OutcomeLemmas.{seen-push}

-- a place is found where an element passes
found_is_any : {X : Type 0} (p : X → Bool) (xs : List X) → ltb (position_or_len p xs) (length xs) ≡ list_any p xs
found_is_any p [] = le-ltb 0 0 (omega arith)
found_is_any p (x ∷ xs) = by (p x) (found_is_any p xs)
  where
    by : (b : Bool) → ltb (position_or_len p xs) (length xs) ≡ list_any p xs → ltb (cond (not b) (1 + position_or_len p xs) 0) (length (x ∷ xs)) ≡ (b || list_any p xs)
    by true rest = lt-ltb 0 (length (x ∷ xs)) (omega arith)
    by false rest =
        let same : ltb (1 + position_or_len p xs) (length (x ∷ xs)) ≡ ltb (position_or_len p xs) (length xs) = grind (arith, nat_tests) in
        same ∙ rest

pub some_is_any : {X : Type 0} (p : X → Bool) (xs : List X) → is_some (position p xs) ≡ list_any p xs
some_is_any p xs = by (ltb (position_or_len p xs) (length xs)) ∙ found_is_any p xs
  where
    by : (b : Bool) → is_some (cond b (Some (position_or_len p xs)) None) ≡ b
    by true = refl
    by false = refl

-- names of any type that are told apart by a test
module _ {A : Type 0} (same : A → A → Bool) where
  -- one more name, where it isn't there yet
  with_new-one : (names : List A) (name : A) → with_new same names name ≡ with_one same names name
  with_new-one names name =
      by (list_any (same name) names)
      ∙ ap (λ (b : Bool). if b then names else names ++ name ∷ []) (sym (some_is_any (same name) names))
    where
      by : (b : Bool) → names ++ (if b then [] else name ∷ []) ≡ (if b then names else names ++ name ∷ [])
      by true = append-nil names
      by false = refl

  module _ (alike : (x y : A) → same x y ≡ true → (z : A) → same x z ≡ same y z) where
    -- names, each once, with one more
    each_once-one : (names : List A) (name : A) → each_once same (names ++ name ∷ []) ≡ with_one same (each_once same names) name
    each_once-one names name = each_once-more same alike names name ∙ with_new-one (each_once same names) name

    -- names that are added to others, with one more
    added-one : (known names : List A) (name : A) → fold (with_one same) known (with_one same names name) ≡ with_one same (fold (with_one same) known names) name
    added-one known names name =
        (λ i. fold (with i) known (with i names name))
        ∙ added-more same alike known names name
        ∙ (λ i. with_new-one (fold (sym with i) known names) name i)
      where
        with : with_one same ≡ with_new same
        with = (λ i ns n. sym (with_new-one ns n) i)

-- of the names of classes

same_class-alike : (a b : PlainClass) → same_class a b ≡ true → (c : PlainClass) → same_class a c ≡ same_class b c
same_class-alike = alike_from_decides same_class same_class-Decides

pub with_new-names : (names : List PlainClass) (name : PlainClass) → with_new same_class names name ≡ with_name names name
with_new-names = with_new-one same_class

pub names-more : (names : List PlainClass) (name : PlainClass) → each_once same_class (names ++ name ∷ []) ≡ with_name (each_once same_class names) name
names-more = each_once-one same_class same_class-alike

pub added_names-more : (known names : List PlainClass) (name : PlainClass) → fold with_name known (with_name names name) ≡ with_name (fold with_name known names) name
added_names-more = added-one same_class same_class-alike

-- names, each once, are added to none as they stand
pub added_names-once : (names : List PlainClass) → fold with_name [] (each_once same_class names) ≡ each_once same_class names
added_names-once names = by_pushes (λ ns. fold with_name [] (each_once same_class ns) ≡ each_once same_class ns) refl
    (λ ns n h. ap (fold with_name []) (names-more ns n) ∙ added_names-more [] (each_once same_class ns) n ∙ ap (λ us. with_name us n) h ∙ sym (names-more ns n)) names

-- the tasks of a trace, with one more event
pub tasks-push : (past : List PlainEvent) (e : PlainEvent) → tasks (past ++ e ∷ []) ≡ with_task (tasks past) (task_of e)
tasks-push past e =
    ap (each_once bytes_eq) (map-append task_of past (e ∷ []))
    ∙ each_once-one bytes_eq (alike_from_decides bytes_eq bytes_eq-Decides) (map task_of past) (task_of e)

-- its classes, with one more acquisition, and with another event
pub classes-acquires : (past : List PlainEvent) (e : PlainEvent) (class : PlainClass) → class_acquired e ≡ Some class → classes (past ++ e ∷ []) ≡ with_name (classes past) class
classes-acquires past e class is =
    ap (each_once same_class) (filter_map-append class_acquired past (e ∷ []) ∙ ap (λ o. filter_map class_acquired past ++ cons_option o []) is)
    ∙ names-more (filter_map class_acquired past) class

pub classes-other : (past : List PlainEvent) (e : PlainEvent) → class_acquired e ≡ None → classes (past ++ e ∷ []) ≡ classes past
classes-other past e is =
    ap (each_once same_class) (filter_map-append class_acquired past (e ∷ []) ∙ ap (λ o. filter_map class_acquired past ++ cons_option o []) is ∙ append-nil (filter_map class_acquired past))

pub Decides-same_dependency : (a b : Dependency) → Decides (same_dependency a b) (a ≡ b)
Decides-same_dependency a b = Decides-like (same_dependency a b) (λ h. λ i. record { from = h.0 i; to = h.1 i }) (λ h. (ap (λ d. d.from) h, ap (λ d. d.to) h))
    (Decides-and (same_class a.from b.from) (same_class a.to b.to) (same_class-Decides a.from b.from) (same_class-Decides a.to b.to))

-- the dependencies of a trace, added to others: those of one more position are added where they aren't
-- there yet
pub dependencies-push : (known : List (Seen Dependency)) (all : List Position) (p : Position) → fold (with_new same_dependency_seen) known
    (seen dependencies_at (all ++ p ∷ [])) ≡ fold (with_new same_dependency_seen) (fold (with_new same_dependency_seen) known (seen dependencies_at all))
    (seen_at dependencies_at (events all) p.line p.says)
dependencies-push known all p =
    ap (fold (with_new same_dependency_seen) known) (seen-push dependencies_at all p)
    ∙ fold-append (with_new same_dependency_seen) known (seen dependencies_at all) (seen_at dependencies_at (events all) p.line p.says)
