-- What a line says by its verb.
use Rattle.std.proofs.Common.{ℕ, ◌≡◌, ◌≢◌, Bool, true, false, List, ◌∷◌, refl, sym, ◌∙◌, ap, Err, codes}
use Rattle.std.specs.Str.{bytes_eq}
use Rattle.std.proofs.lemmas.Slice.Eq.{bytes_eq-Decides}
use Rattle.ld_trace.specs.declared.event.Verb.{Verb}
use Rattle.ld_trace.specs.declared.event.Verb.TheVariants.{OfLock, OfState, Nested, Begin}
use Rattle.ld_trace.specs.declared.event.LockVerb.TheVariants as lock_verbs
use Rattle.ld_trace.specs.declared.event.StateVerb.TheVariants as state_verbs
use Rattle.ld_trace.specs.declared.event.LineFault.TheVariants.{BadVerb}
use Rattle.ld_trace.specs.Lines.{begins_comment}
use Rattle.ld_trace.specs.Events.{said_by_fields}
use Rattle.ld_trace.specs.Inner.Reading.{said_after, spelling}

-- a verb says what follows it
said-verb : (verb : Verb) (found : List (List ℕ)) → said_by_fields (spelling verb ∷ found) ≡ said_after verb found
said-verb (OfLock lock_verbs.Acquire) found = refl
said-verb (OfLock lock_verbs.Try) found = refl
said-verb (OfLock lock_verbs.Release) found = refl
said-verb (OfState state_verbs.Enter) found = refl
said-verb (OfState state_verbs.Exit) found = refl
said-verb (OfState state_verbs.Enable) found = refl
said-verb (OfState state_verbs.Disable) found = refl
said-verb Nested found = refl
said-verb Begin found = refl

differs : (field text : List ℕ) → field ≢ text → bytes_eq field text ≡ false
differs field text apart = by (bytes_eq field text) refl
  where
    by : (test : Bool) → bytes_eq field text ≡ test → bytes_eq field text ≡ false
    by true is = absurd (apart ((bytes_eq-Decides field text).0 is))
    by false is = is

-- what is no verb has the fault of one
pub said-no_verb : (field : List ℕ) (found : List (List ℕ)) → begins_comment field ≡ false → ((verb : Verb) → field ≢ spelling verb) → said_by_fields (field ∷ found) ≡ Err BadVerb
said-no_verb field found event apart =
    rw (
      event,
      differs field (codes "acquire") (apart (OfLock lock_verbs.Acquire)),
      differs field (codes "nested") (apart Nested),
      differs field (codes "try") (apart (OfLock lock_verbs.Try)),
      differs field (codes "release") (apart (OfLock lock_verbs.Release)),
      differs field (codes "enter") (apart (OfState state_verbs.Enter)),
      differs field (codes "exit") (apart (OfState state_verbs.Exit)),
      differs field (codes "enable") (apart (OfState state_verbs.Enable)),
      differs field (codes "disable") (apart (OfState state_verbs.Disable)),
      differs field (codes "begin") (apart Begin),
    ) refl

-- what a line with a verb says
pub said-line : (found : List (List ℕ)) (first : List ℕ) (others : List (List ℕ)) (verb : Verb) → found ≡ first ∷ others → first ≡ spelling verb → said_after verb others ≡ said_by_fields found
said-line found first others verb is spelled = sym (ap said_by_fields (is ∙ ap (λ f. f ∷ others) spelled) ∙ said-verb verb others)
