-- Reading options one after the other, as a loop does.
use Rattle.std.proofs.Common.{ℕ, zero, suc, ◌≡◌, ◌+◌, ◌-◌, ◌<◌, ◌≤◌, List, Result, Ok, Err, refl, sym, ◌∙◌, true, false, arith}
use Rattle.ld_trace_dat.specs.declared.fault.DatFault.{DatFault}
use Rattle.ld_trace_dat.specs.declared.fault.Wrong.TheVariants as wrongs
use Rattle.ld_trace_dat.specs.declared.options.Progress.{Progress}
use Rattle.ld_trace_dat.specs.declared.start.Version.{Version}
use Rattle.ld_trace_dat.specs.Parts.{fault}
use Rattle.ld_trace_dat.specs.Options.{option, options}

one : (bytes : List ℕ) (version : Version) (n : ℕ) (from next : Progress) → option bytes version from ≡ Ok next → next.is_done ≡ false → options bytes version (suc n) from ≡ options bytes version n next
unfolding options
one bytes version n from next h more = rw (h, more) refl

pub goes_on : (bytes : List ℕ) (version : Version) (count i : ℕ) (from next : Progress) (total : Result Progress DatFault) → i < count → option bytes version from ≡ Ok next → next.is_done ≡ false
    → options bytes version (count - i) from ≡ total → options bytes version (count - (i + 1)) next ≡ total
goes_on bytes version count i from next total lt h more so_far =
    let left : count - i ≡ suc (count - (i + 1)) = omega arith in
    let here : options bytes version (suc (count - (i + 1))) from ≡ total = rw (← left) so_far in
    sym (one bytes version (count - (i + 1)) from next h more) ∙ here

last_one : (bytes : List ℕ) (version : Version) (n : ℕ) (from next : Progress) → option bytes version from ≡ Ok next → next.is_done ≡ true → options bytes version (suc n) from ≡ Ok next
unfolding options
last_one bytes version n from next h done = rw (h, done) refl

pub is_done : (bytes : List ℕ) (version : Version) (count i : ℕ) (from next : Progress) (total : Result Progress DatFault) → i < count → option bytes version from ≡ Ok next → next.is_done ≡ true
    → options bytes version (count - i) from ≡ total → Ok next ≡ total
is_done bytes version count i from next total lt h done so_far =
    let left : count - i ≡ suc (count - (i + 1)) = omega arith in
    let here : options bytes version (suc (count - (i + 1))) from ≡ total = rw (← left) so_far in
    sym (last_one bytes version (count - (i + 1)) from next h done) ∙ here

wrong_one : (bytes : List ℕ) (version : Version) (n : ℕ) (from : Progress) (f : DatFault) → option bytes version from ≡ Err f → options bytes version (suc n) from ≡ Err f
unfolding options
wrong_one bytes version n from f h = rw h refl

pub fails : (bytes : List ℕ) (version : Version) (count i : ℕ) (from : Progress) (f : DatFault) (total : Result Progress DatFault) → i < count → option bytes version from ≡ Err f
    → options bytes version (count - i) from ≡ total → Err f ≡ total
fails bytes version count i from f total lt h so_far =
    let left : count - i ≡ suc (count - (i + 1)) = omega arith in
    let here : options bytes version (suc (count - (i + 1))) from ≡ total = rw (← left) so_far in
    sym (wrong_one bytes version (count - (i + 1)) from f h) ∙ here

none : (bytes : List ℕ) (version : Version) (n : ℕ) (from : Progress) → n ≡ 0 → options bytes version n from ≡ fault from.at wrongs.Ends
unfolding options
none bytes version zero from e = refl
none bytes version (suc n) from e = absurd (omega arith)

pub ended : (bytes : List ℕ) (version : Version) (count i : ℕ) (from : Progress) (total : Result Progress DatFault) → count ≤ i
    → options bytes version (count - i) from ≡ total → fault from.at wrongs.Ends ≡ total
ended bytes version count i from total le so_far = sym (none bytes version (count - i) from (omega arith)) ∙ so_far
