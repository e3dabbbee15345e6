-- Lines one after another, and the end of a handler.
use Rattle.std.proofs.Common.{◌≡◌, ◌<◌, ◌+◌, ◌||◌, ◌++◌, ◌∷◌, [], List, ℕ, Bool, true, false, not, cond, length, filter, get_or, Option, Some, None, refl, ap, sym, ◌∙◌, arith, eq-eqb}
use Rattle.std.proofs.lemmas.Bool.{and_from, and_parts, not_from_true, true≢false}
use Rattle.std.proofs.lemmas.List.{append_assoc, append-nil}
use Rattle.std.proofs.lemmas.List.Folds.{list_any_at}
use Rattle.std.specs.List.{list_any}
use Rattle.ld_rules.specs.Inner.Scanned.{remove_last}
use Rattle.ld_rules.proofs.RemoveLemmas.{filter-remove_other}
use Rattle.ld_tracks.specs.declared.line.Held.{Held}
use Rattle.ld_tracks.specs.declared.line.Line.{Line}
use Rattle.ld_tracks.specs.declared.line.Lock.{Lock}
use Rattle.ld_tracks.specs.declared.place.Place.{Place}
use Rattle.ld_tracks.specs.declared.place.Handlers.{Handlers}
use Rattle.ld_tracks.specs.declared.place.Handlers.TheVariants as running
use Rattle.ld_tracks.specs.Format.{Frame, PlainTrack, Writes, after_line, after_lines, depth, exited, is_at, is_of, released}
use Rattle.ld_tracks.specs.Place.{inner_by, outer_by}
use Rattle.ld_tracks.specs.Track.{IsBehind, elsewhere, holds_here, without}

-- a lock that was acquired at a depth is the one of its name and address there
one_of : (depth : ℕ) (x : Held) → is_at depth x ≡ true → is_of depth x.lock x ≡ true
one_of depth x at = and_from _ _ at (and_from _ _ (eq-eqb x.lock.name x.lock.name refl) (eq-eqb x.lock.address x.lock.address refl))

abbrev pub none_held : Held
none_held = record { lock = record { name = 0; address = 0 }; depth = 0 }

-- a lock that was acquired at a depth is found there
pub found : (depth : ℕ) (xs : List Held) (i : ℕ) → i < length xs → is_at depth (get_or xs i none_held) ≡ true → list_any (is_of depth (get_or xs i none_held).lock) xs ≡ true
found depth xs i within at = list_any_at (is_of depth (get_or xs i none_held).lock) xs i none_held within (one_of depth (get_or xs i none_held) at)

-- a rejected line is followed by nothing
none-stays : (lines : List Line) → after_lines None lines ≡ None
none-stays [] = refl
none-stays (line ∷ lines) = refl

pub after-append : (t : Option PlainTrack) (xs ys : List Line) → after_lines t (xs ++ ys) ≡ after_lines (after_lines t xs) ys
after-append t [] ys = refl
after-append None (x ∷ xs) ys = sym (none-stays ys)
after-append (Some t) (x ∷ xs) ys = after-append (after_line t x) xs ys

pub writes-none : (t : PlainTrack) (lines : List Line) → Writes t lines t lines
writes-none t lines = record { said = []; added = sym (append-nil lines); taken = refl }

pub writes-then : (a b c : PlainTrack) (first second third : List Line) → Writes a first b second → Writes b second c third → Writes a first c third
writes-then a b c first second third p q = record {
  said = p.said ++ q.said;
  added = q.added ∙ ap (λ xs. xs ++ q.said) p.added ∙ append_assoc first p.said q.said;
  taken = after-append (Some a) p.said q.said ∙ ap (λ t. after_lines t q.said) p.taken ∙ q.taken;
}

shrinks : {X : Type 0} (p : X → Bool) (xs : List X) → list_any p xs ≡ true → length (remove_last p xs) + 1 ≡ length xs
shrinks p [] found = absurd (true≢false (sym found))
shrinks p (x ∷ xs) found = by (shrinks p xs) (list_any p xs) refl (p x) found
  where
    by : (list_any p xs ≡ true → length (remove_last p xs) + 1 ≡ length xs) → (a : Bool) → list_any p xs ≡ a → (b : Bool) → (b || a) ≡ true →
        length (cond a (x ∷ remove_last p xs) (cond b xs (x ∷ xs))) + 1 ≡ length (x ∷ xs)
    by less true is b h = let rest = less is in omega arith
    by less false is true h = omega arith
    by less false is false h = absurd (true≢false (sym h))

-- a lock that is released is one less
pub fewer : (lock : Lock) (t : PlainTrack) → holds_here lock t ≡ true → length (without lock t).held < length t.held
fewer lock t here =
    let less : length (remove_last (is_of (depth t) lock) t.held) + 1 ≡ length t.held = shrinks (is_of (depth t) lock) t.held here in
    let now : length (without lock t).held ≡ length (remove_last (is_of (depth t) lock) t.held) = ap (λ (b : Bool). length (cond b (released lock t) t).held) here in
    omega arith

-- what is released in the innermost frame leaves the locks of the others
pub elsewhere-without : (lock : Lock) (t : PlainTrack) → elsewhere (without lock t) ≡ elsewhere t
elsewhere-without lock t = by (holds_here lock t)
  where
    by : (b : Bool) → elsewhere (cond b (released lock t) t) ≡ elsewhere t
    by true = filter-remove_other (is_of (depth t) lock) (λ one. not (is_at (depth t) one)) (λ x is. not_from_true _ (and_parts _ _ is).0) t.held
    by false = refl

pub inner-without : (lock : Lock) (t : PlainTrack) → (without lock t).inner ≡ t.inner
inner-without lock t = by (holds_here lock t)
  where
    by : (b : Bool) → (cond b (released lock t) t).inner ≡ t.inner
    by true = refl
    by false = refl

pub outer-without : (lock : Lock) (t : PlainTrack) → (without lock t).outer ≡ t.outer
outer-without lock t = by (holds_here lock t)
  where
    by : (b : Bool) → (cond b (released lock t) t).outer ≡ t.outer
    by true = refl
    by false = refl

-- where none passes, all fail
all-fail : {X : Type 0} (p : X → Bool) (xs : List X) → list_any p xs ≡ false → filter (λ x. not (p x)) xs ≡ xs
all-fail p [] none = refl
all-fail p (x ∷ xs) none = by (all-fail p xs) (p x) (list_any p xs) refl none
  where
    by : (list_any p xs ≡ false → filter (λ y. not (p y)) xs ≡ xs) → (b a : Bool) → list_any p xs ≡ a → (b || a) ≡ false →
        cond (not b) (x ∷ filter (λ y. not (p y)) xs) (filter (λ y. not (p y)) xs) ≡ x ∷ xs
    by rest true a is h = absurd (true≢false h)
    by rest false true is h = absurd (true≢false h)
    by rest false false is h = ap (λ ys. x ∷ ys) (rest is)

-- a handler that holds nothing ends
behind-by : (outer : List Frame) (t s after : PlainTrack) → elsewhere s ≡ elsewhere t → list_any (is_at (depth s)) s.held ≡ false → exited outer s ≡ Some after → IsBehind outer t after
behind-by [] t s after same free ends = absurd cc
behind-by (frame ∷ frames) t s after same free ends =
    let is : record s { is_new = false; inner = frame; outer = frames } ≡ after = cc in
    sym is
    ∙ ap {A = List Held} (λ held. record { is_new = false; inner = frame; outer = frames; held = held }) (sym (all-fail (is_at (depth s)) s.held free) ∙ same)

pub behind : (t s after : PlainTrack) → s.outer ≡ t.outer → elsewhere s ≡ elsewhere t → list_any (is_at (depth s)) s.held ≡ false → exited s.outer s ≡ Some after → IsBehind t.outer t after
behind t s after outer same free ends = behind-by t.outer t s after same free (ap (λ frames. exited frames s) (sym outer) ∙ ends)

nowhere-by : (h : Handlers) (place : Place) → (inner_by h place).state ≡ None → outer_by h place ≡ []
nowhere-by running.Outside place none = refl
nowhere-by running.Soft place none = absurd cc
nowhere-by running.Hard place none = absurd cc
nowhere-by running.HardOverSoft place none = absurd cc

-- outside handlers there is no other frame
pub nowhere : (place : Place) → (inner_by place.handlers place).state ≡ None → outer_by place.handlers place ≡ []
nowhere place none = nowhere-by place.handlers place none

pub behind-none : (t : PlainTrack) → t.outer ≡ [] → IsBehind t.outer t t
behind-none t none = by t.outer none
  where
    by : (outer : List Frame) → outer ≡ [] → IsBehind outer t t
    by [] is = refl
    by (frame ∷ frames) is = absurd cc
