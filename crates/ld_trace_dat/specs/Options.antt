-- What a file begins with, its options, and sections.
use Rattle.std.specs.Prelude.{ℕ, zero, suc, ◌+◌, ◌%◌, Bool, true, false, ◌||◌, not, ◌==◌, nat_lt, List, [], ◌∷◌, length, Option, Some, None, Result, Ok, Err, if◌then◌else◌, codes}
use Rattle.std.specs.Str.{bytes_eq}
use Rattle.ld_trace_dat.specs.declared.fault.DatFault.{DatFault}
use Rattle.ld_trace_dat.specs.declared.fault.Wrong.{Wrong}
use Rattle.ld_trace_dat.specs.declared.fault.Wrong.TheVariants as wrongs
use Rattle.ld_trace_dat.specs.declared.options.Found.{Found}
use Rattle.ld_trace_dat.specs.declared.options.Progress.{Progress}
use Rattle.ld_trace_dat.specs.declared.section.Span.{Span}
use Rattle.ld_trace_dat.specs.declared.start.Version.{Version}
use Rattle.ld_trace_dat.specs.declared.start.Version.TheVariants as versions
use Rattle.ld_trace_dat.specs.Parts.{◌>>=◌, fault, half, key, long, part, text, word}

abbrev pub version_of : List ℕ → ℕ → Result Version DatFault
version_of name at =
    if bytes_eq name (codes "6") then Ok versions.Six
    else if bytes_eq name (codes "7") then Ok versions.Seven
    else fault at wrongs.Version

-- The version, and what follows: bytes 23, 8 and 68, `tracing`, the version with a zero behind it, a zero for numbers
-- whose lowest byte stands first, a byte, and 4 bytes.
unfoldable pub start : List ℕ → Result (Version × ℕ) DatFault
start bytes = do
  named ← key bytes 0 (23 ∷ 8 ∷ codes "Dtracing") wrongs.Magic
  name ← text bytes named
  version ← version_of name.0 named
  sized ← key bytes name.1 (0 ∷ []) wrongs.BigEndian
  paged ← part bytes sized 1
  page ← word bytes paged.1
  Ok (version, page.1)

-- The contents of the section at an offset, which has to be of this kind: its kind and flags of 2 bytes, a number of
-- 4 bytes, its size of 8 bytes. Flag 1 is that of a compressed section.
unfoldable pub section : List ℕ → ℕ → ℕ → Result Span DatFault
section bytes at wanted = do
  kind ← half bytes at
  right ← if kind.0 == wanted then Ok true else fault at wrongs.Section
  flags ← half bytes kind.1
  plain ← if flags.0 % 2 == 1 then fault at wrongs.Compressed else Ok true
  described ← word bytes flags.1
  size ← long bytes described.1
  contents ← part bytes size.1 size.0
  Ok (record { at = size.1; end = contents.1 })

-- the contents of an option, if it is the first of its kind
abbrev pub once : Option Span → Span → ℕ → Wrong → Result (Option Span) DatFault
once None span at wrong = Ok (Some span)
once (Some s) span at wrong = fault at wrong

-- What the options say with one more, of this number. Others say nothing of where a part stands.
abbrev pub noted : Found → ℕ → Span → ℕ → Result Found DatFault
noted found id span at =
    if id == 3 then (once found.buffer span at wrongs.Buffers >>= λ b. Ok (record found { buffer = b }))
    else if id == 4 then (once found.clock span at wrongs.Twice >>= λ b. Ok (record found { clock = b }))
    else if id == 16 then (once found.headers span at wrongs.Twice >>= λ b. Ok (record found { headers = b }))
    else if id == 18 then (once found.formats span at wrongs.Twice >>= λ b. Ok (record found { formats = b }))
    else if id == 19 then (once found.symbols span at wrongs.Twice >>= λ b. Ok (record found { symbols = b }))
    else if id == 21 then (once found.names span at wrongs.Twice >>= λ b. Ok (record found { names = b }))
    else if id == 12 || id == 13 then fault at wrongs.Guest
    else if id == 22 then fault at wrongs.Latency
    else Ok found

-- Behind the last option of a section: the offset of the next section of options, which stands behind this one, or 0.
unfoldable pub others_at : List ℕ → ℕ → Result (ℕ × Bool) DatFault
others_at bytes at = do
  size ← word bytes at
  next ← long bytes size.1
  if next.0 == 0 then Ok (next.1, true)
      else if nat_lt next.0 next.1 then fault size.1 wrongs.Order
      else (section bytes next.0 0 >>= λ inside. Ok (inside.at, false))

-- behind the option of number 0
abbrev pub last : List ℕ → Version → ℕ → Result (ℕ × Bool) DatFault
last bytes versions.Six at = Ok (at, true)
last bytes versions.Seven at = others_at bytes at

abbrev pub progress : ℕ → Bool → Found → Progress
progress at is_done found = record { at = at; is_done = is_done; found = found }

-- behind an option of a number that isn't 0: its size of 4 bytes, and its contents
unfoldable pub option_of : List ℕ → Progress → ℕ → ℕ → Result Progress DatFault
option_of bytes from id at = do
  size ← word bytes at
  contents ← part bytes size.1 size.0
  found ← noted from.found id (record { at = size.1; end = contents.1 }) from.at
  Ok (progress contents.1 false found)

-- behind the next option, by its number of 2 bytes
unfoldable pub option : List ℕ → Version → Progress → Result Progress DatFault
option bytes version from = do
  id ← half bytes from.at
  if id.0 == 0 then (last bytes version id.1 >>= λ x. Ok (progress x.0 x.1 from.found))
      else option_of bytes from id.0 id.1

-- All options, one behind the other, up to the last one. There are no more than n.
unfoldable pub options : List ℕ → Version → ℕ → Progress → Result Progress DatFault
options bytes version zero from = fault from.at wrongs.Ends
options bytes version (suc n) from = option bytes version from >>= λ next. if next.is_done then Ok next else options bytes version n next

-- before the first option
abbrev pub start_at : ℕ → Progress
start_at at = progress at false (record { buffer = None; clock = None; headers = None; formats = None; symbols = None; names = None })
