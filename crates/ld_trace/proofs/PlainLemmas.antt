-- A line of words with single blanks, that ends by an LF, or by a CR and an LF.
use Rattle.std.proofs.Common.{ℕ, ◌≡◌, ◌+◌, ◌<◌, ◌-◌, Bool, true, false, not, ◌&&◌, ◌||◌, List, [], ◌∷◌, ◌++◌, length, take, drop, refl, sym, ◌∙◌, ap, arith}
use Rattle.std.proofs.Common.{Some, None, Ok, append_assoc, length-append, if◌then◌else◌}
use Rattle.std.proofs.Math.Bool.{and-false}
use Rattle.std.proofs.Math.Seq.{drop-append-add}
use Rattle.std.proofs.lemmas.Bool.{and_from, and_parts}
use Rattle.std.proofs.lemmas.Bool.Decides.{nat_tests}
use Rattle.std.proofs.lemmas.List.{append-nil, drop_at, take_at}
use Rattle.std.proofs.lemmas.List.Folds.{list_all-append, list_any-append}
use Rattle.std.specs.Prelude.{◌==◌, IfSome, Option, nat_le}
use Rattle.std.specs.Char.{is_ascii_graphic}
use Rattle.std.specs.List.{list_all, list_any, onto_first, position_or_len, slice_split, filter}
use Rattle.ld_trace.specs.declared.line.TheConstants.{LONGEST_WORD}
use Rattle.ld_trace.specs.Lines.{is_blank, is_empty, fields, is_name, is_separator, is_word, lines, less_end, text_of}
use Rattle.ld_trace.specs.declared.event.LockVerb.{LockVerb}
use Rattle.ld_trace.specs.declared.event.LockVerb.TheVariants as lock_verbs
use Rattle.ld_trace.specs.Events.{PlainEvent, Acquire, Try, Release, PlainLock, is_sign, lock_of, said_by, said_by_fields}
use Rattle.ld_trace.specs.First.{IsFirstSaid}
use Rattle.ld_trace.specs.Inner.Reading.{spelling_of_lock_verb}
use Rattle.ld_trace.specs.Inner.Plain.{IsLockLine, line_end, spelling_with}
use Rattle.ld_trace.proofs.EndLemmas.{end-some, lines-end}

-- a run of bytes of words
pub record IsRun (run : List ℕ) : Type 0 where
  pub full : is_empty run ≡ false
  pub graphic : list_all is_ascii_graphic run ≡ true

pub run-word : (run : List ℕ) → is_word run ≡ true → IsRun run
run-word [] is = absurd (cc)
run-word (b ∷ run) is = record { full = refl; graphic = (and_parts (nat_le (length (b ∷ run)) LONGEST_WORD) (list_all is_ascii_graphic (b ∷ run)) is).1 }

-- a byte of words is no blank, LF or CR
apart : (b c : ℕ) → c < 33 → is_ascii_graphic b ≡ true → (b == c) ≡ false
apart b c low graphic = grind (arith, nat_tests)

no_blank : (b : ℕ) → is_ascii_graphic b ≡ true → is_blank b ≡ false
no_blank b graphic = rw (apart b 32 (omega arith) graphic, apart b 9 (omega arith) graphic) refl

-- a run goes before the first line
pub lines-onto : (run more line : List ℕ) (others : List (List ℕ)) → list_all is_ascii_graphic run ≡ true → lines more ≡ line ∷ others → lines (run ++ more) ≡ (run ++ line) ∷ others
lines-onto [] more line others graphic is = is
lines-onto (b ∷ run) more line others graphic is =
    let now = and_parts (is_ascii_graphic b) (list_all is_ascii_graphic run) graphic in
    rw (apart b 10 (omega arith) now.0) (ap (onto_first b) (lines-onto run more line others now.1 is))

-- and before what stands up to the first blank
split-onto : (run more part : List ℕ) (parts : List (List ℕ)) → list_all is_ascii_graphic run ≡ true → slice_split is_blank more ≡ part ∷ parts
    → slice_split is_blank (run ++ more) ≡ (run ++ part) ∷ parts
split-onto [] more part parts graphic is = is
split-onto (b ∷ run) more part parts graphic is =
    let now = and_parts (is_ascii_graphic b) (list_all is_ascii_graphic run) graphic in
    rw (no_blank b now.0) (ap (onto_first b) (split-onto run more part parts now.1 is))

-- a run before a blank is a field
pub fields-word : (run more : List ℕ) → IsRun run → fields (run ++ 32 ∷ more) ≡ run ∷ fields more
fields-word run more is =
    let cut : slice_split is_blank (run ++ 32 ∷ more) ≡ run ∷ slice_split is_blank more =
    split-onto run (32 ∷ more) [] (slice_split is_blank more) is.graphic refl ∙ ap (λ first. first ∷ slice_split is_blank more) (append-nil run) in
    ap (λ runs. filter (λ run. not (is_empty run)) runs) cut ∙ rw is.full refl

-- and so is a run at the end
pub fields-end : (run : List ℕ) → IsRun run → fields run ≡ run ∷ []
fields-end run is =
    let cut : slice_split is_blank (run ++ []) ≡ run ∷ [] =
    split-onto run [] [] [] is.graphic refl ∙ ap (λ first. first ∷ []) (append-nil run) in
    ap fields (sym (append-nil run)) ∙ ap (λ runs. filter (λ run. not (is_empty run)) runs) cut ∙ rw is.full refl

-- what is left of bytes with this byte at their end
less_end-push : (c : ℕ) (xs : List ℕ) (b : ℕ) (same : Bool) → (c == b) ≡ same → less_end c (xs ++ b ∷ []) ≡ (if same then xs else xs ++ b ∷ [])
less_end-push c xs b same is =
    let last : length (xs ++ b ∷ []) - 1 ≡ length xs = omega (arith, length-append xs (b ∷ [])) in
    rw (last, drop_at xs (b ∷ []) (length xs) refl, take_at xs (b ∷ []) (length xs) refl, is) (by same)
  where
    by : (same : Bool) → (if same && true then xs else xs ++ b ∷ []) ≡ (if same then xs else xs ++ b ∷ [])
    by true = refl
    by false = refl

-- bytes with a byte of words at their end
record Ends (bytes : List ℕ) : Type 0 where
  front : List ℕ
  last : ℕ
  is : bytes ≡ front ++ last ∷ []
  graphic : is_ascii_graphic last ≡ true

ends-run : (b : ℕ) (run : List ℕ) → list_all is_ascii_graphic (b ∷ run) ≡ true → Ends (b ∷ run)
ends-run b [] graphic = record { front = []; last = b; is = refl; graphic = (and_parts (is_ascii_graphic b) true graphic).0 }
ends-run b (c ∷ run) graphic =
    let e = ends-run c run (and_parts (is_ascii_graphic b) (list_all is_ascii_graphic (c ∷ run)) graphic).1 in
    record { front = b ∷ e.front; last = e.last; is = ap (λ bytes. b ∷ bytes) e.is; graphic = e.graphic }

ends-onto : (front run : List ℕ) → IsRun run → Ends (front ++ run)
ends-onto front [] is = absurd (let h = is.full in cc)
ends-onto front (b ∷ run) is =
    let e = ends-run b run is.graphic in
    record { front = front ++ e.front; last = e.last; is = ap (λ bytes. front ++ bytes) e.is ∙ sym (append_assoc front e.front (e.last ∷ [])); graphic = e.graphic }

-- a line without its end, where a run stands before that
pub text-run : (front run : List ℕ) → IsRun run → (cr : Bool) → text_of ((front ++ run) ++ line_end cr) ≡ front ++ run
text-run front run is true =
    ap text_of (sym (append_assoc (front ++ run) (13 ∷ []) (10 ∷ [])))
    ∙ ap (less_end 13) (less_end-push 10 ((front ++ run) ++ 13 ∷ []) 10 true refl) ∙ less_end-push 13 (front ++ run) 13 true refl
text-run front run is false =
    let e = ends-onto front run is in
    ap (less_end 13) (less_end-push 10 (front ++ run) 10 true refl) ∙ ap (less_end 13) e.is
    ∙ less_end-push 13 e.front e.last false (grind (arith, nat_tests)) ∙ sym e.is

-- a name is a run without `@` and `/`
record IsNamed (name : List ℕ) : Type 0 where
  run : IsRun name
  whole : list_any is_separator name ≡ false

named : (name : List ℕ) → is_name name ≡ true → IsNamed name
named name is = let two = and_parts (is_word name) (not (list_any is_separator name)) is in record { run = run-word name two.0; whole = by (list_any is_separator name) two.1 }
  where
    by : (test : Bool) → not test ≡ true → test ≡ false
    by true is = absurd (cc)
    by false is = refl

-- the first `@` stands after the class
sign-after : (class instance : List ℕ) → list_any is_separator class ≡ false → position_or_len is_sign (class ++ 64 ∷ instance) ≡ length class
sign-after [] instance none = refl
sign-after (b ∷ class) instance none = by (is_sign b) refl none (sign-after class instance)
  where
    later : (test : Bool) → (test || list_any is_separator class) ≡ false → list_any is_separator class ≡ false
    later true is = absurd (cc)
    later false is = is

    by : (test : Bool) → is_sign b ≡ test → (is_separator b || list_any is_separator class) ≡ false →
        (list_any is_separator class ≡ false → position_or_len is_sign (class ++ 64 ∷ instance) ≡ length class) → position_or_len is_sign (b ∷ (class ++ 64 ∷ instance)) ≡ length (b ∷ class)
    by true is none others = absurd (let h = rw is at none in cc)
    by false is none others = rw (is, others (later (is_separator b) none)) (omega arith)

-- what is spelled as a lock is that lock
pub lock-alone : (class : List ℕ) → is_name class ≡ true → lock_of class ≡ Some (record { class = class; instance = None })
lock-alone class is = rw is refl

pub lock-with : (class instance : List ℕ) → is_name class ≡ true → is_name instance ≡ true → lock_of (class ++ 64 ∷ instance) ≡ Some (record { class = class; instance = Some instance })
lock-with class instance is also =
    let at = sign-after class instance (named class is).whole in
    let front : take (position_or_len is_sign (class ++ 64 ∷ instance)) (class ++ 64 ∷ instance) ≡ class = take_at class (64 ∷ instance) _ (sym at) in
    let back : drop (position_or_len is_sign (class ++ 64 ∷ instance) + 1) (class ++ 64 ∷ instance) ≡ instance = rw at (drop-append-add class (64 ∷ instance) 1) in
    let none : is_name (class ++ 64 ∷ instance) ≡ false =
    ap (λ some. is_word (class ++ 64 ∷ instance) && not some) (list_any-append is_separator class (64 ∷ instance) ∙ ap (λ o. o || true) (named class is).whole)
    ∙ and-false (is_word (class ++ 64 ∷ instance)) in
    rw (none, front, back, is, also) refl

-- and its bytes are a run
pub run-with : (class instance : List ℕ) → is_name class ≡ true → is_name instance ≡ true → IsRun (class ++ 64 ∷ instance)
run-with class instance is also = record {
  full = by class;
  graphic =
      list_all-append is_ascii_graphic class (64 ∷ instance)
      ∙ and_from (list_all is_ascii_graphic class) (list_all is_ascii_graphic (64 ∷ instance)) (named class is).run.graphic (named instance also).run.graphic;
}
  where
    by : (class : List ℕ) → is_empty (class ++ 64 ∷ instance) ≡ false
    by [] = refl
    by (b ∷ class) = refl

-- so it is for each lock
pub lock-spelled : (bytes rest : List ℕ) (lock : PlainLock) → IsLockLine bytes lock rest → lock_of (spelling_with lock.class lock.instance) ≡ Some lock
lock-spelled bytes rest lock is = by lock.class lock.instance is.class is.instance
  where
    by : (class : List ℕ) (instance : Option (List ℕ)) → is_name class ≡ true → IfSome instance (λ name. is_name name ≡ true) → lock_of
        (spelling_with class instance) ≡ Some (record { class = class; instance = instance })
    by class None is also = lock-alone class is
    by class (Some name) is also = lock-with class name is also

pub run-spelled : (bytes rest : List ℕ) (lock : PlainLock) → IsLockLine bytes lock rest → IsRun (spelling_with lock.class lock.instance)
run-spelled bytes rest lock is = by lock.class lock.instance is.class is.instance
  where
    by : (class : List ℕ) (instance : Option (List ℕ)) → is_name class ≡ true → IfSome instance (λ name. is_name name ≡ true) → IsRun (spelling_with class instance)
    by class None is also = (named class is).run
    by class (Some name) is also = run-with class name is also

-- the event of a verb with a task and a lock
abbrev pub event_of : LockVerb → List ℕ → PlainLock → PlainEvent
event_of lock_verbs.Acquire task lock = Acquire task lock
event_of lock_verbs.Try task lock = Try task lock
event_of lock_verbs.Release task lock = Release task lock

run-verb : (verb : LockVerb) → IsRun (spelling_of_lock_verb verb)
run-verb lock_verbs.Acquire = record { full = refl; graphic = refl }
run-verb lock_verbs.Try = record { full = refl; graphic = refl }
run-verb lock_verbs.Release = record { full = refl; graphic = refl }

said-three : (verb : LockVerb) (task field : List ℕ) (lock : PlainLock) → is_word task ≡ true → lock_of field ≡ Some lock → said_by_fields
    (spelling_of_lock_verb verb ∷ task ∷ field ∷ []) ≡ Ok (Some (event_of verb task lock))
said-three lock_verbs.Acquire task field lock word is = rw (word, is) refl
said-three lock_verbs.Try task field lock word is = rw (word, is) refl
said-three lock_verbs.Release task field lock word is = rw (word, is) refl

-- three runs with blanks between them, before other bytes
pub spread : (first task field end : List ℕ) → first ++ 32 ∷ (task ++ 32 ∷ (field ++ end)) ≡ (first ++ 32 ∷ (task ++ 32 ∷ field)) ++ end
spread first task field end = sym (append_assoc first (32 ∷ (task ++ 32 ∷ field)) end ∙ ap (λ o. first ++ 32 ∷ o) (append_assoc task (32 ∷ field) end))

-- and the end of a line after them are a line
pub lines-three : (first task field rest : List ℕ) (cr : Bool) → IsRun first → IsRun task → IsRun field → lines (first ++ 32 ∷ (task ++ 32 ∷ (field ++ (line_end cr ++ rest))))
    ≡ (first ++ 32 ∷ (task ++ 32 ∷ (field ++ line_end cr))) ∷ lines rest
lines-three first task field rest cr verb middle last =
    let end = line_end cr in
    let more = end ++ rest in
    let inner : lines (field ++ more) ≡ (field ++ end) ∷ lines rest = lines-onto field more end (lines rest) last.graphic (lines-end cr rest) in
    let later : lines (task ++ 32 ∷ (field ++ more)) ≡ (task ++ 32 ∷ (field ++ end)) ∷ lines rest =
    lines-onto task (32 ∷ (field ++ more)) (32 ∷ (field ++ end)) (lines rest) middle.graphic (ap (onto_first 32) inner) in
    lines-onto first (32 ∷ (task ++ 32 ∷ (field ++ more))) (32 ∷ (task ++ 32 ∷ (field ++ end))) (lines rest) verb.graphic (ap (onto_first 32) later)

-- whose text and fields they are
pub text-three : (first task field : List ℕ) (cr : Bool) → IsRun field → text_of ((first ++ 32 ∷ (task ++ 32 ∷ field)) ++ line_end cr) ≡ first ++ 32 ∷ (task ++ 32 ∷ field)
text-three first task field cr last =
    let front = first ++ 32 ∷ (task ++ 32 ∷ []) in
    let same : front ++ field ≡ first ++ 32 ∷ (task ++ 32 ∷ field) = append_assoc first (32 ∷ (task ++ 32 ∷ [])) field ∙ ap (λ o. first ++ 32 ∷ o) (append_assoc task (32 ∷ []) field) in
    ap (λ o. text_of (o ++ line_end cr)) (sym same) ∙ text-run front field last cr ∙ same

pub fields-three : (first task field : List ℕ) → IsRun first → IsRun task → IsRun field → fields (first ++ 32 ∷ (task ++ 32 ∷ field)) ≡ first ∷ task ∷ field ∷ []
fields-three first task field verb middle last =
    fields-word first (task ++ 32 ∷ field) verb ∙ ap (λ o. first ∷ o) (fields-word task field middle ∙ ap (λ o. task ∷ o) (fields-end field last))

-- a line of a verb, a task and a lock says their event
pub said-plain : (verb : LockVerb) (task : List ℕ) (lock : PlainLock) (bytes after others rest : List ℕ) → bytes ≡ spelling_of_lock_verb verb ++ 32 ∷ after → after ≡ task ++ 32 ∷ others
    → is_word task ≡ true → IsLockLine others lock rest → IsFirstSaid bytes (Ok (Some (event_of verb task lock))) rest
said-plain verb task lock bytes after others rest begins goes spelled ends =
    let first = spelling_of_lock_verb verb in
    let field = spelling_with lock.class lock.instance in
    let runs = run-spelled others rest lock ends in
    let middle = run-word task spelled in
    let body = first ++ 32 ∷ (task ++ 32 ∷ field) in
    let cr = ends.ended.cr in
    let end = line_end cr in
    let whole : bytes ≡ first ++ 32 ∷ (task ++ 32 ∷ (field ++ (end ++ rest))) =
    begins ∙ ap (λ o. first ++ 32 ∷ o) (goes ∙ ap (λ o. task ++ 32 ∷ o) (ends.whole ∙ ap (λ o. field ++ o) ends.ended.whole)) in
    record {
      line = body ++ end;
      first = ap lines whole ∙ lines-three first task field rest cr (run-verb verb) middle runs ∙ ap (λ o. o ∷ lines rest) (spread first task field end);
      whole = whole ∙ spread first task field (end ++ rest) ∙ sym (append_assoc body end rest);
      nonempty = omega (arith, length-append body end, end-some cr);
      says =
          ap said_by (text-three first task field cr runs) ∙ ap said_by_fields (fields-three first task field (run-verb verb) middle runs)
          ∙ said-three verb task field lock spelled (lock-spelled others rest lock ends);
    }
