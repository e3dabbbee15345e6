-- Reading things one after the other, as a loop does.
use Rattle.std.proofs.Common.{ℕ, zero, suc, ◌≡◌, ◌+◌, ◌-◌, ◌<◌, ◌≤◌, List, [], ◌∷◌, ◌++◌, Result, Ok, Err, refl, sym, ap, ◌∙◌, append_assoc, arith}
use Rattle.std.proofs.lemmas.List.{append-nil}
use Rattle.ld_trace_dat.specs.declared.fault.DatFault.{DatFault}
use Rattle.ld_trace_dat.specs.declared.fault.ReadError.{ReadError}
use Rattle.ld_trace_dat.specs.declared.fault.ReadError.TheVariants as errors
use Rattle.ld_trace_dat.specs.Parts.{◌>>=◌}
use Rattle.ld_trace_dat.specs.Lists.{Fails, many}

-- what was read before, and what is still read
abbrev pub with_front : {A S : Type 0} → List A → Result (List A × S) DatFault → Result (List A × S) DatFault
with_front front read = read >>= λ x. Ok (front ++ x.0, x.1)

regroup : {A S : Type 0} (front : List A) (x : A) (read : Result (List A × S) DatFault) → with_front front (read >>= λ xs. Ok (x ∷ xs.0, xs.1)) ≡ with_front (front ++ x ∷ []) read
regroup front x (Ok xs) = ap (λ l. Ok (l, xs.1)) (simp append_assoc)
regroup front x (Err e) = refl

step : {A S : Type 0} (one : S → Result (A × S) DatFault) (front : List A) (n : ℕ) (s t : S) (x : A) → one s ≡ Ok (x, t)
    → with_front front (many one (suc n) s) ≡ with_front (front ++ x ∷ []) (many one n t)
unfolding many
step one front n s t x h = rw h (regroup front x (many one n t))

pub goes_on : {A S : Type 0} (one : S → Result (A × S) DatFault) (front : List A) (count i : ℕ) (s t : S) (x : A) (total : Result (List A × S) DatFault) → i < count → one s ≡ Ok (x, t)
    → with_front front (many one (count - i) s) ≡ total → with_front (front ++ x ∷ []) (many one (count - (i + 1)) t) ≡ total
goes_on one front count i s t x total lt h so_far =
    let left : count - i ≡ suc (count - (i + 1)) = omega arith in
    let here : with_front front (many one (suc (count - (i + 1))) s) ≡ total = rw (← left) so_far in
    sym (step one front (count - (i + 1)) s t x h) ∙ here

stop : {A S : Type 0} (one : S → Result (A × S) DatFault) (front : List A) (n : ℕ) (s : S) (f : DatFault) → one s ≡ Err f → with_front front (many one (suc n) s) ≡ Err f
unfolding many
stop one front n s f h = rw h refl

pub fails : {A S : Type 0} (one : S → Result (A × S) DatFault) (front : List A) (count i : ℕ) (s : S) (f : DatFault) (total : Result (List A × S) DatFault) → i < count → one s ≡ Err f
    → with_front front (many one (count - i) s) ≡ total → total ≡ Err f
fails one front count i s f total lt h so_far =
    let left : count - i ≡ suc (count - (i + 1)) = omega arith in
    let here : with_front front (many one (suc (count - (i + 1))) s) ≡ total = rw (← left) so_far in
    sym here ∙ stop one front (count - (i + 1)) s f h

pub fails_by : {A S : Type 0} (one : S → Result (A × S) DatFault) (front : List A) (count i : ℕ) (s : S) (e : ReadError) (total : Result (List A × S) DatFault) → i < count → Fails e (one s)
    → with_front front (many one (count - i) s) ≡ total → Fails e total
fails_by one front count i s errors.Memory total lt h so_far = tt
fails_by one front count i s (errors.Fault f) total lt h so_far = fails one front count i s f total lt h so_far

none_left : {A S : Type 0} (one : S → Result (A × S) DatFault) (front : List A) (n : ℕ) (s : S) → n ≡ 0 → with_front front (many one n s) ≡ Ok (front, s)
unfolding many
none_left one front zero s e = ap (λ l. Ok (l, s)) (append-nil front)
none_left one front (suc n) s e = absurd (omega arith)

pub ended : {A S : Type 0} (one : S → Result (A × S) DatFault) (front : List A) (count i : ℕ) (s : S) (total : Result (List A × S) DatFault) → count ≤ i
    → with_front front (many one (count - i) s) ≡ total → total ≡ Ok (front, s)
ended one front count i s total le so_far = sym so_far ∙ none_left one front (count - i) s (omega arith)
