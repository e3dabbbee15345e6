-- Lists of a file: so many things one behind the other.
use Rattle.std.specs.Prelude.{ℕ, zero, suc, ◌≡◌, List, [], ◌∷◌, map, Result, Ok, Err}
use Rattle.ld_trace_dat.specs.declared.fault.DatFault.{DatFault}
use Rattle.ld_trace_dat.specs.declared.fault.ReadError.{ReadError}
use Rattle.ld_trace_dat.specs.declared.fault.ReadError.TheVariants as errors
use Rattle.ld_trace_dat.specs.declared.formats.System.{System}
use Rattle.ld_trace_dat.specs.Parts.{◌>>=◌, long_sized, part, text, word, key}
use Rattle.ld_trace_dat.specs.declared.fault.Wrong.TheVariants as wrongs

-- What a function answers, seen by view, is what the file says, unless memory ran out.
abbrev pub Fails : {Y : Type 0} → ReadError → Result Y DatFault → Type 0
Fails errors.Memory said = Unit {0}
Fails (errors.Fault f) said = said ≡ Err f

abbrev pub Gives : {X Y : Type 0} → (X → Y) → Result X ReadError → Result Y DatFault → Type 0
Gives view (Ok x) said = said ≡ Ok (view x)
Gives view (Err e) said = Fails e said

-- So many things, each read where the one before it left off, and where the last one leaves off.
unfoldable pub many : {A S : Type 0} → (S → Result (A × S) DatFault) → ℕ → S → Result (List A × S) DatFault
many one zero s = Ok ([], s)
many one (suc n) s = one s >>= λ x. many one n x.1 >>= λ xs. Ok (x.0 ∷ xs.0, xs.1)

-- texts of files, each behind its size, as many as a number before them says
unfoldable pub texts : List ℕ → ℕ → Result (List (List ℕ) × ℕ) DatFault
texts bytes at = word bytes at >>= λ count. many (long_sized bytes) count.0 count.1

-- the events of a system: its name, and the text of the file `format` of each
pub record PlainSystem : Type 0 where
  pub name : List ℕ
  pub formats : List (List ℕ)

-- a system without where its texts lie in memory
abbrev pub plain_system : System → PlainSystem
plain_system s = record { name = s.name.now; formats = map (λ t. t.now) s.formats.items }

unfoldable pub system_at : List ℕ → ℕ → Result (PlainSystem × ℕ) DatFault
system_at bytes at = do
  name ← text bytes at
  formats ← texts bytes name.1
  Ok (record { name = name.0; formats = formats.0 }, formats.1)

-- all systems, as many as a number before them says
unfoldable pub systems : List ℕ → ℕ → Result (List PlainSystem × ℕ) DatFault
systems bytes at = word bytes at >>= λ count. many (system_at bytes) count.0 count.1
