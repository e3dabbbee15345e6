-- What a file looks like that is no stream of traces.
use Rattle.std.specs.Prelude.{◌≡◌, ℕ, Bool, not, ◌||◌, List, [], ◌∷◌, ◌++◌, Option, Some, None, codes, find, map, nat_eq, take, unwrap_or, if◌then◌else◌}
use Rattle.std.specs.List.{starts_with}
use Rattle.std.specs.Option.{option_or}
use Rattle.ld_trace.specs.Lines.{lines, text_of}
use Rattle.ld_baseline.specs.Known.{is_comment}
use Rattle.ld_files.specs.declared.looks.Kind.{Kind}
use Rattle.ld_files.specs.declared.looks.Kind.TheVariants.{Xz, Gzip, Zstd, Bzip2, Zip, Utf16, Marked, TraceDat, Ftrace, Report, Map}
use Rattle.ld_files.specs.declared.looks.Looks.{Looks}
use Rattle.ld_files.specs.declared.looks.Looks.TheVariants.{Like, Line}
use Rattle.ld_files.specs.declared.looks.TheConstants.{MOST_SHOWN}

-- a file begins with these bytes
abbrev pub begins : List ℕ → List ℕ → Bool
begins bytes front = starts_with nat_eq bytes front

-- what a file is that has to be unpacked, by the first bytes of each file that xz makes, or gzip, zstd, bzip2 or zip
abbrev pub packed : List ℕ → Option Kind
packed bytes =
    if begins bytes (253 ∷ codes "7zXZ" ++ 0 ∷ []) then Some Xz
    else if begins bytes (31 ∷ 139 ∷ []) then Some Gzip
    else if begins bytes (40 ∷ 181 ∷ 47 ∷ 253 ∷ []) then Some Zstd
    else if begins bytes (codes "BZh") then Some Bzip2
    else if begins bytes (codes "PK" ++ 3 ∷ 4 ∷ []) then Some Zip
    else None

-- what another file is: by the byte order marks of UTF-16 and of UTF-8, by the first bytes that trace-cmd records, or
-- by what ftrace or trace-cmd print, lockcheck reports, and a recorder of programs writes into a map
abbrev pub unpacked : List ℕ → Option Kind
unpacked bytes =
    if begins bytes (255 ∷ 254 ∷ []) || begins bytes (254 ∷ 255 ∷ []) then Some Utf16
    else if begins bytes (239 ∷ 187 ∷ 191 ∷ []) then Some Marked
    else if begins bytes (23 ∷ 8 ∷ codes "Dtracing") then Some TraceDat
    else if begins bytes (codes "# tracer: ") || begins bytes (codes "cpus=") then Some Ftrace
    else if begins bytes (codes "traces ") then Some Report
    else if begins bytes (codes "places ") then Some Map
    else None

-- what a file is, if its first bytes tell it
abbrev pub kind_of : List ℕ → Option Kind
kind_of bytes = option_or (packed bytes) (unpacked bytes)

-- a line without its end that says something
abbrev pub says : List ℕ → Bool
says text = not (is_comment text)

-- the first such line; empty if there is none
abbrev pub first_said : List ℕ → List ℕ
first_said bytes = unwrap_or (find says (map text_of (lines bytes))) []

-- a file of these bytes looks so: of that kind, or of none, and then its first line that says something begins so
abbrev pub IsLook : List ℕ → Looks → Type 0
IsLook bytes (Like kind) = kind_of bytes ≡ Some kind
IsLook bytes (Line line) = (kind_of bytes ≡ None) × (line.items ≡ take MOST_SHOWN (first_said bytes))
