-- Figures are written one behind another, and counted in lists of rows.
use Rattle.std.proofs.Common.{◌≡◌, ◌++◌, ◌∷◌, [], ◌∙◌, ℕ, Bool, true, false, List, All, OnOk, Result, ap, append_assoc, length, length-append, map, refl, subst, sym, arith}
use Rattle.std.proofs.lemmas.List.Concat.{flat_map-append}
use Rattle.std.proofs.lemmas.List.Elements.{All-head, All-tail, filter-append}
use Rattle.std.specs.Prelude.{filter, if◌then◌else◌}
use Rattle.ld_rules.specs.Outcome.{outcome}
use Rattle.ld_rules.specs.declared.outcome.Listed.{Listed}
use Rattle.ld_trace.specs.Sources.{PlainSource, plain}
use Rattle.ld_texts.specs.Stats.{figure_line, figure_lines, is_refused_for}

-- something is written behind something else
pub joined : {E : Type 0} (r : Result (Unit {0}) E) (old middle new one other : List ℕ) → middle ≡ old ++ one → OnOk r (new ≡ middle ++ other)
    → OnOk r (new ≡ old ++ (one ++ other))
joined r old middle new one other wrote last = subst (λ text. OnOk r (new ≡ text)) (ap (λ text. text ++ other) wrote ∙ append_assoc old one other) last

-- the same of figures
pub behind : (old middle new : List ℕ) (one other : List (List ℕ × ℕ)) → middle ≡ old ++ figure_lines one → new ≡ middle ++ figure_lines other
    → new ≡ old ++ figure_lines (one ++ other)
behind old middle new one other wrote last =
    last ∙ ap (λ text. text ++ figure_lines other) wrote ∙ append_assoc old (figure_lines one) (figure_lines other)
    ∙ ap (λ text. old ++ text) (sym (flat_map-append figure_line one other))

-- what is counted of rows is counted of what they are made from
pub count-map : {A B : Type 0} (f : A → B) (p : B → Bool) (xs : List A) → length (filter p (map f xs)) ≡ length (filter (λ x. p (f x)) xs)
count-map f p [] = refl
count-map {A} {B} f p (x ∷ xs) = one (p (f x)) (filter p (map f xs)) (filter (λ y. p (f y)) xs) (count-map f p xs)
  where
    one : (is : Bool) (ys : List B) (zs : List A) → length ys ≡ length zs → length (if is then f x ∷ ys else ys) ≡ length (if is then x ∷ zs else zs)
    one true ys zs same = omega (arith, same)
    one false ys zs same = same

-- all are counted, or none
pub count-all : {A : Type 0} (p : A → Bool) (xs : List A) → All (λ x. p x ≡ true) xs → length (filter p xs) ≡ length xs
count-all p [] all = refl
count-all {A} p (x ∷ xs) all =
    ap (λ is. length (if is then x ∷ filter p xs else filter p xs)) (All-head (λ y. p y ≡ true) x xs all)
    ∙ omega (arith, count-all p xs (All-tail (λ y. p y ≡ true) x xs all))

pub count-none : {A : Type 0} (p : A → Bool) (xs : List A) → All (λ x. p x ≡ false) xs → length (filter p xs) ≡ 0
count-none p [] all = refl
count-none p (x ∷ xs) all =
    ap (λ is. length (if is then x ∷ filter p xs else filter p xs)) (All-head (λ y. p y ≡ false) x xs all)
    ∙ count-none p xs (All-tail (λ y. p y ≡ false) x xs all)

-- of two lists of which all of one and none of the other are counted
pub count-first : {A : Type 0} (p : A → Bool) (xs ys : List A) → All (λ x. p x ≡ true) xs → All (λ y. p y ≡ false) ys → length (filter p (xs ++ ys)) ≡ length xs
count-first p xs ys all none =
    ap length (filter-append p xs ys) ∙ length-append (filter p xs) (filter p ys)
    ∙ omega (arith, count-all p xs all, count-none p ys none)

pub count-second : {A : Type 0} (p : A → Bool) (xs ys : List A) → All (λ x. p x ≡ false) xs → All (λ y. p y ≡ true) ys → length (filter p (xs ++ ys)) ≡ length ys
count-second p xs ys none all =
    ap length (filter-append p xs ys) ∙ length-append (filter p xs) (filter p ys)
    ∙ omega (arith, count-none p xs none, count-all p ys all)

-- traces are rejected as they are listed
pub count-listed : (name : List ℕ) (listed : List Listed) → All (λ trace. trace.outcome ≡ outcome (plain trace.source)) listed
    → length (filter (λ trace. is_refused_for name trace.outcome) listed)
    ≡ length (filter (λ source. is_refused_for name (outcome source)) (map (λ trace. plain trace.source) listed))
count-listed name [] each = refl
count-listed name (trace ∷ listed) each =
    ap (λ outcome. length (if is_refused_for name outcome then trace ∷ filter (λ other. is_refused_for name other.outcome) listed
    else filter (λ other. is_refused_for name other.outcome) listed)) (All-head (λ other. other.outcome ≡ outcome (plain other.source)) trace listed each)
    ∙ one (is_refused_for name (outcome (plain trace.source)))
    (count-listed name listed (All-tail (λ other. other.outcome ≡ outcome (plain other.source)) trace listed each))
  where
    listed_so : List Listed
    listed_so = filter (λ other. is_refused_for name other.outcome) listed

    sources_so : List PlainSource
    sources_so = filter (λ source. is_refused_for name (outcome source)) (map (λ other. plain other.source) listed)

    one : (is : Bool) → length listed_so ≡ length sources_so
        → length (if is then trace ∷ listed_so else listed_so) ≡ length (if is then plain trace.source ∷ sources_so else sources_so)
    one true rest = omega (arith, rest)
    one false rest = rest
