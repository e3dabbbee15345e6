-- What the fault of a stream never is.
use Rattle.std.proofs.Common.{◌≡◌, ◌+◌, ◌==◌, ◌∷◌, [], List, ℕ, Bool, true, false, Option, Some, None, IfSome, Result, Ok, Err, is_some, length}
use Rattle.std.proofs.Common.{filter_map, nat_lt, slice_get, refl, ap, ◌∙◌, if◌then◌else◌}
use Rattle.std.specs.List.{cons_option, enumerate_from}
use Rattle.ld_trace.specs.declared.source.TheConstants.{LONGEST_STREAM, MOST_TRACES}
use Rattle.ld_trace.specs.declared.source.StreamFault.{StreamFault}
use Rattle.ld_trace.specs.declared.source.StreamFault.TheVariants.{BadHeader, Memory, NoHeader, TooLong, TooManyTraces}
use Rattle.ld_trace.specs.Lines.{lines, says_nothing}
use Rattle.ld_trace.specs.Sources.{fault_at, fields_of, headers_before, is_header, label_of, line_faults, stream_fault}
use Rattle.ld_check.specs.declared.checked.CheckFault.{CheckFault}
use Rattle.ld_check.specs.declared.checked.CheckFault.TheVariants.{Stream}
use Rattle.ld_check.specs.Faults.{check_fault_of_stream}

-- no line has want of memory as its fault
by_line : (silent header well_formed too_many early : Bool) (line : ℕ)
    → (if silent then None else if header then (if well_formed then (if too_many then Some TooManyTraces else None) else Some (BadHeader line)) else
    (if early then Some (NoHeader line) else None)) ≡ Some Memory → ⊥
by_line true header well_formed too_many early line h = cc
by_line false true true true early line h = cc
by_line false true true false early line h = cc
by_line false true false too_many early line h = cc
by_line false false well_formed too_many true line h = cc
by_line false false well_formed too_many false line h = cc

first_never : {X : Type 0} (f : X → Option StreamFault) (xs : List X) → ((x : X) → f x ≡ Some Memory → ⊥) → slice_get (filter_map f xs) 0 ≡ Some Memory → ⊥
first_never f [] never h = cc
first_never f (x ∷ xs) never h = by (f x) (never x) (first_never f xs never) h
  where
    by : (r : Option StreamFault) → (r ≡ Some Memory → ⊥) → (slice_get (filter_map f xs) 0 ≡ Some Memory → ⊥) → slice_get (cons_option r (filter_map f xs)) 0 ≡ Some Memory → ⊥
    by None here others is = others is
    by (Some y) here others is = here is

-- nor has a stream
never_memory : (bytes : List ℕ) → stream_fault bytes ≡ Some Memory → ⊥
never_memory bytes h = by (nat_lt LONGEST_STREAM (length bytes)) h
  where
    by : (long : Bool) → (if long then Some TooLong else slice_get (line_faults (lines bytes)) 0) ≡ Some Memory → ⊥
    by true is = cc
    by false is = first_never (λ p. fault_at (lines bytes) p.0 p.1) (enumerate_from 0 (lines bytes))
        (λ p. by_line (says_nothing (fields_of p.1)) (is_header p.1) (is_some (label_of (fields_of p.1)))
        (headers_before (lines bytes) p.0 == MOST_TRACES) (headers_before (lines bytes) p.0 == 0) (p.0 + 1)) is

-- so a stream's fault is told as it is
pub told_as_it_is : {T U : Type 0} (bytes : List ℕ) (fault : StreamFault) (cut : Result T StreamFault) (told : Result U CheckFault) → IfSome
    (stream_fault bytes) (λ f. cut ≡ Err f) → cut ≡ Err fault → told ≡ Err (check_fault_of_stream fault)
    → IfSome (stream_fault bytes) (λ f. told ≡ Err (Stream f))
told_as_it_is bytes fault cut told is failed answered = by (stream_fault bytes) (never_memory bytes) is
  where
    told_of : (f : StreamFault) → (Some f ≡ Some Memory → ⊥) → check_fault_of_stream f ≡ Stream f
    told_of TooLong never = refl
    told_of (NoHeader line) never = refl
    told_of (BadHeader line) never = refl
    told_of TooManyTraces never = refl
    told_of Memory never = absurd (never refl)

    by : (found : Option StreamFault) → (found ≡ Some Memory → ⊥) → IfSome found (λ f. cut ≡ Err f) → IfSome found (λ f. told ≡ Err (Stream f))
    by None never same = tt
    by (Some f) never same = let here : fault ≡ f = cc in answered ∙ ap Err (ap check_fault_of_stream here ∙ told_of f never)

-- a stream that was checked has none
pub none_where_checked : {T : Type 0} (found : Option StreamFault) (told : Result T CheckFault) (checked : T) → IfSome found (λ f. told ≡ Err (Stream f)) → told ≡ Ok checked → found ≡ None
none_where_checked None told checked is ok = refl
none_where_checked (Some f) told checked is ok = cc
