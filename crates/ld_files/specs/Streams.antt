-- The streams of several files as one, and the fault of a file or of a known text.
use Rattle.std.specs.Borrow.{Bor}
use Rattle.std.specs.Prelude.{ℕ, Bool, not, ◌==◌, List, [], ◌∷◌, length, Option, Some, nat_lt, count_by, if◌then◌else◌}
use Rattle.std.specs.Option.{option_map}
use Rattle.ld_trace.specs.Sources.{sources}
use Rattle.ld_trace.specs.declared.source.StreamFault.{StreamFault}
use Rattle.ld_trace.specs.declared.source.StreamFault.TheVariants as stream_faults
use Rattle.ld_trace.specs.declared.source.TheConstants.{LONGEST_STREAM}
use Rattle.ld_reduce.specs.Written.{ended}
use Rattle.ld_baseline.specs.Known.{unknown_line}
use Rattle.ld_files.specs.declared.looks.Looks.{Looks}
use Rattle.ld_files.specs.declared.fault.Fault.{Fault}
use Rattle.ld_files.specs.declared.fault.Fault.TheVariants.{NoHeader, NoStream, BadHeader, File, Together, UnknownLine, Memory}

-- an LF
abbrev pub is_lf : ℕ → Bool
is_lf byte = byte == 10

-- how many lines the bytes of a file have: each ends with an LF
abbrev pub line_count : List ℕ → ℕ
line_count bytes = count_by is_lf (ended bytes)

-- a fault of the stream that is a file, with its name
abbrev pub fault_of_file : Bor (List ℕ) → StreamFault → Fault
fault_of_file name (stream_faults.NoHeader line) = NoHeader name line
fault_of_file name (stream_faults.BadHeader line) = BadHeader name line
fault_of_file name stream_faults.Memory = Memory
fault_of_file name fault = File name fault

-- what is wrong with the stream that some files are together, which is wrong with the file where it is one
abbrev pub fault_of_files : List (Bor (List ℕ)) → Fault → Fault
fault_of_files (name ∷ []) (Together fault) = fault_of_file name fault
fault_of_files names fault = fault

-- the same fault of a file that looks so, which is told with a line that stands before every header
abbrev pub looking : Looks → Fault → Fault
looking looks (NoHeader name line) = NoStream name line looks
looking looks fault = fault

-- a stream has a trace
abbrev pub has_trace : List ℕ → Bool
has_trace bytes = not (length (sources bytes) == 0)

-- why a text isn't the known one of this name: it is too long, or else its first unknown line
abbrev pub fault_of_known : Bor (List ℕ) → List ℕ → Option Fault
fault_of_known name known =
    if nat_lt LONGEST_STREAM (length known) then Some (File name stream_faults.TooLong)
    else option_map (λ line. UnknownLine name line) (unknown_line known)
