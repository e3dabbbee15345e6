-- A report as JSON, one object a line.
use Rattle.std.specs.Prelude.{ℕ, Bool, true, false, Option, Some, None, List, [], ◌∷◌, ◌++◌, ◌+◌, ◌/◌, ◌%◌, ◌==◌}
use Rattle.std.specs.Prelude.{codes, decimal, flat_map, length, nat_lt, if◌then◌else◌}
use Rattle.std.specs.Borrow.{Bor}
use Rattle.std.specs.List.{slice_get}
use Rattle.std.specs.Str.Lossy.{utf8_lossy}
use Rattle.ld_trace.specs.declared.event.State.{State}
use Rattle.ld_trace.specs.declared.event.State.TheVariants.{Hard, Soft}
use Rattle.ld_rows.specs.declared.classes.Class.{Class}
use Rattle.ld_rows.specs.declared.lines.At.{At}
use Rattle.ld_rows.specs.declared.lines.Frame.{Frame}
use Rattle.ld_rows.specs.declared.lines.Line.{Line}
use Rattle.ld_rows.specs.declared.lines.Place.{Place}
use Rattle.ld_rows.specs.declared.lines.Place.TheVariants as places
use Rattle.ld_rows.specs.declared.violations.Common.{Common}
use Rattle.ld_rows.specs.declared.violations.CommonLock.{CommonLock}
use Rattle.ld_rows.specs.declared.violations.Dependency.{Dependency}
use Rattle.ld_rows.specs.declared.violations.End.{End}
use Rattle.ld_rows.specs.declared.violations.Group.{Group}
use Rattle.ld_rows.specs.declared.violations.Handler.{Handler}
use Rattle.ld_rows.specs.declared.violations.Held.{Held}
use Rattle.ld_rows.specs.declared.violations.Kind.{Kind}
use Rattle.ld_rows.specs.declared.violations.Kind.TheVariants.{Recursion, Inversion, Conflict, Forbidden}
use Rattle.ld_rows.specs.declared.violations.Refused.{Refused}
use Rattle.ld_rows.specs.declared.violations.Rows.{Rows}
use Rattle.ld_rows.specs.declared.violations.Seen.{Seen}
use Rattle.ld_rows.specs.declared.violations.Shared.{Shared}
use Rattle.ld_rows.specs.declared.violations.Since.{Since}
use Rattle.ld_rows.specs.declared.violations.Since.TheVariants as since
use Rattle.ld_rows.specs.declared.violations.Totals.{Totals}
use Rattle.ld_rows.specs.declared.violations.Use.{Use}
use Rattle.ld_rows.specs.declared.violations.Use.TheVariants.{Safe, Exposed}
use Rattle.ld_rows.specs.declared.violations.Violation.{Violation}

-- a hexadecimal digit
abbrev pub hex_digit : ℕ → ℕ
hex_digit n = if nat_lt n 10 then 48 + n else 87 + n

-- a byte within quotes: `"`, `\` and what is below a blank are escaped
abbrev pub escaped : ℕ → List ℕ
escaped byte =
    if byte == 34 then codes "\\\""
    else if byte == 92 then codes "\\\\"
    else if byte == 8 then codes "\\b"
    else if byte == 9 then codes "\\t"
    else if byte == 10 then codes "\\n"
    else if byte == 12 then codes "\\f"
    else if byte == 13 then codes "\\r"
    else if nat_lt byte 32 then codes "\\u00" ++ (hex_digit (byte / 16) ∷ hex_digit (byte % 16) ∷ [])
    else byte ∷ []

-- bytes as a text in quotes: what isn't UTF-8 is told as U+FFFD
unfoldable pub quoted : List ℕ → List ℕ
quoted bytes = codes "\"" ++ flat_map escaped (utf8_lossy bytes) ++ codes "\""

-- values in brackets
abbrev pub listed : {A : Type 0} → (A → List ℕ) → List A → List ℕ
listed value [] = codes "[]"
listed value (first ∷ others) = codes "[" ++ value first ++ flat_map (λ other. codes "," ++ value other) others ++ codes "]"

-- lines, each with its number, which goes up by one
abbrev pub numbered : {A : Type 0} → (ℕ → A → List ℕ) → ℕ → List A → List ℕ
numbered line number [] = []
numbered line number (first ∷ others) = line number first ++ numbered line (number + 1) others

abbrev pub truth : Bool → List ℕ
truth true = codes "true"
truth false = codes "false"

abbrev pub state_name : State → List ℕ
state_name Hard = codes "hard"
state_name Soft = codes "soft"

-- a class
unfoldable pub class_json : Class → List ℕ
class_json class = codes "{\"name\":" ++ quoted class.name.now ++ codes ",\"subclass\":" ++ decimal class.sub ++ codes "}"

-- where a line stands
unfoldable pub at_json : At → List ℕ
at_json at =
    codes "{\"label\":" ++ quoted at.label.now
    ++ codes ",\"line\":" ++ decimal at.line
    ++ codes ",\"file\":" ++ quoted at.file.now
    ++ codes ",\"file_line\":" ++ decimal at.file_line
    ++ codes "}"

-- a call, with its line if that is known
abbrev pub line_member : Option ℕ → List ℕ
line_member None = []
line_member (Some line) = codes ",\"line\":" ++ decimal line

unfoldable pub frame_json : Frame → List ℕ
frame_json frame =
    codes "{\"function\":" ++ quoted frame.function.items
    ++ codes ",\"file\":" ++ quoted frame.file.items
    ++ line_member frame.line
    ++ codes "}"

-- where a line comes from, if that is known
abbrev pub place_member : Option Place → List ℕ
place_member None = []
place_member (Some (places.Called frames)) = codes ",\"calls\":" ++ listed frame_json frames.items
place_member (Some (places.Recorded line)) = codes ",\"recorded\":" ++ decimal line

-- what a line says, and where it comes from
unfoldable pub said_members : Line → List ℕ
said_members line = codes ",\"text\":" ++ quoted line.text.now ++ place_member line.place

-- a line of a trace
unfoldable pub line_members : Line → List ℕ
line_members line = codes ",\"at\":" ++ at_json line.at ++ said_members line

-- a lock that is held
abbrev pub instance_member : Option (Bor (List ℕ)) → List ℕ
instance_member None = []
instance_member (Some name) = codes ",\"instance\":" ++ quoted name.now

unfoldable pub held_json : Held → List ℕ
held_json held =
    codes "{\"class\":" ++ class_json held.class
    ++ instance_member held.instance
    ++ codes ",\"written\":" ++ truth held.is_written
    ++ line_members held.line
    ++ codes "}"

-- a handler that a task is in
unfoldable pub handler_json : Handler → List ℕ
handler_json handler =
    codes "{\"state\":\"" ++ state_name handler.state ++ codes "\"" ++ line_members handler.line ++ codes "}"

-- where something was first seen, with what its task had open
unfoldable pub seen_members : Seen → List ℕ
seen_members seen =
    line_members seen.line
    ++ codes ",\"task\":" ++ quoted seen.task.now
    ++ codes ",\"held\":" ++ listed held_json seen.held.items
    ++ codes ",\"handlers\":" ++ listed handler_json seen.handlers.items

-- since when interrupts are enabled
abbrev pub since_json : Since → List ℕ
since_json since.Off = codes "{\"enabled\":false}"
since_json since.Start = codes "{\"enabled\":true}"
since_json (since.Line line) = codes "{\"enabled\":true" ++ line_members line ++ codes "}"

-- the first line
unfoldable pub totals_line : Totals → List ℕ
totals_line totals =
    codes "{\"kind\":\"traces\",\"version\":1,\"traces\":" ++ decimal totals.traces
    ++ codes ",\"refused\":" ++ decimal totals.refused
    ++ codes ",\"events\":" ++ decimal totals.events
    ++ codes ",\"classes\":" ++ decimal totals.classes
    ++ codes ",\"dependencies\":" ++ decimal totals.dependencies
    ++ codes "}\n"

-- a refused trace
unfoldable pub refused_line : Refused → List ℕ
refused_line refused =
    codes "{\"kind\":\"refused\",\"at\":" ++ at_json refused.line.at
    ++ codes ",\"fault\":" ++ quoted refused.fault.now
    ++ said_members refused.line
    ++ codes "}\n"

-- a dependency
unfoldable pub dependency_line : ℕ → Dependency → List ℕ
dependency_line number dependency =
    codes "{\"kind\":\"dependency\",\"number\":" ++ decimal number
    ++ codes ",\"from\":" ++ class_json dependency.from
    ++ codes ",\"to\":" ++ class_json dependency.to
    ++ seen_members dependency.seen
    ++ codes "}\n"

-- an end: `in` handlers, or `on` with interrupts enabled
abbrev pub use_name : Use → List ℕ
use_name Safe = codes "in"
use_name Exposed = codes "on"

unfoldable pub end_line : ℕ → End → List ℕ
end_line number end =
    codes "{\"kind\":\"usage\",\"number\":" ++ decimal number
    ++ codes ",\"state\":\"" ++ state_name end.state
    ++ codes "\",\"class\":" ++ class_json end.class
    ++ codes ",\"use\":\"" ++ use_name end.used
    ++ codes "\",\"usage\":" ++ quoted end.marks
    ++ seen_members end.seen
    ++ codes ",\"hard\":" ++ since_json end.hard
    ++ codes ",\"soft\":" ++ since_json end.soft
    ++ codes "}\n"

-- a group, with the dependency that most of its violations have
abbrev pub shared_member : Option Shared → List ℕ
shared_member None = []
shared_member (Some shared) =
    codes ",\"most\":{\"dependency\":" ++ decimal shared.dependency
    ++ codes ",\"violations\":" ++ decimal shared.violations
    ++ codes "}"

unfoldable pub group_line : ℕ → Group → List ℕ
group_line number group =
    codes "{\"kind\":\"group\",\"number\":" ++ decimal number
    ++ codes ",\"violations\":" ++ listed decimal group.violations.items
    ++ shared_member group.most
    ++ codes "}\n"

-- an end, if there is one at this place: its class, its usage characters and where it was first seen, each behind
-- its words
abbrev pub end_members : (class usage at : List ℕ) → Option End → List ℕ
end_members class usage at None = []
end_members class usage at (Some end) =
    class ++ class_json end.class ++ usage ++ quoted end.marks ++ at ++ at_json end.seen.line.at

-- where an end was first seen, if there is one at this place
abbrev pub use_member : List ℕ → Option End → List ℕ
use_member words None = []
use_member words (Some end) = words ++ at_json end.seen.line.at

abbrev pub end_at : List End → Option ℕ → Option End
end_at ends None = None
end_at ends (Some place) = slice_get ends place

-- the first class, if there is one
abbrev pub first_member : List ℕ → List Class → List ℕ
first_member words [] = []
first_member words (first ∷ others) = words ++ class_json first

abbrev pub inversion_members : List Class → List ℕ
inversion_members [] = []
inversion_members (from ∷ walk) =
    codes ",\"from\":" ++ class_json from
    ++ first_member (codes ",\"to\":") walk
    ++ codes ",\"walk\":" ++ listed class_json walk

-- what a violation is about
abbrev pub kind_members : List End → Violation → Kind → List ℕ
kind_members ends violation Recursion = first_member (codes ",\"class\":") violation.classes.items
kind_members ends violation Inversion = inversion_members violation.classes.items
kind_members ends violation Conflict =
    end_members (codes ",\"class\":") (codes ",\"usage\":") (codes ",\"in\":") (end_at ends violation.safe)
    ++ use_member (codes ",\"on\":") (end_at ends violation.exposed)
kind_members ends violation Forbidden =
    end_members (codes ",\"from\":") (codes ",\"from_usage\":") (codes ",\"in\":") (end_at ends violation.safe)
    ++ end_members (codes ",\"to\":") (codes ",\"to_usage\":") (codes ",\"on\":") (end_at ends violation.exposed)
    ++ codes ",\"walk\":" ++ listed class_json violation.classes.items

abbrev pub kind_name : Kind → List ℕ
kind_name Recursion = codes "recursion"
kind_name Inversion = codes "inversion"
kind_name Conflict = codes "conflict"
kind_name Forbidden = codes "forbidden"

abbrev pub state_member : Option State → List ℕ
state_member None = []
state_member (Some state) = codes ",\"state\":\"" ++ state_name state ++ codes "\""

abbrev pub number_member : List ℕ → Option ℕ → List ℕ
number_member words None = []
number_member words (Some number) = words ++ decimal number

-- the line to point at, the number of the violation, and those of its group and of its dependencies
unfoldable pub numbers_of : ℕ → Violation → List ℕ
numbers_of number violation =
    codes ",\"at\":" ++ at_json violation.at
    ++ codes ",\"number\":" ++ decimal number
    ++ codes ",\"group\":" ++ decimal violation.group
    ++ codes ",\"dependencies\":" ++ listed decimal violation.dependencies.items

-- a lock that is held at each first occurrence of an inversion's dependencies
unfoldable pub common_lock_json : CommonLock → List ℕ
common_lock_json lock =
    codes "{\"name\":" ++ quoted lock.name.now
    ++ instance_member lock.instance
    ++ codes ",\"written\":" ++ truth lock.is_written
    ++ codes "}"

-- what these first occurrences have in common, if it is anything
abbrev pub common_member : Option Common → List ℕ
common_member None = []
common_member (Some common) =
    codes ",\"common\":{\"one_task\":" ++ truth common.is_one_task
    ++ codes ",\"locks\":" ++ listed common_lock_json common.locks.items
    ++ codes "}"

-- the numbers of its ends, if it has some, and its line in the report
unfoldable pub rest_of : Violation → List ℕ
rest_of violation =
    number_member (codes ",\"in_number\":") violation.safe
    ++ number_member (codes ",\"on_number\":") violation.exposed
    ++ codes ",\"report\":" ++ quoted violation.text.now
    ++ codes "}\n"

-- a violation
unfoldable pub violation_line : List End → ℕ → Violation → List ℕ
violation_line ends number violation =
    codes "{\"kind\":\"" ++ kind_name violation.kind ++ codes "\""
    ++ state_member violation.state
    ++ kind_members ends violation violation.kind
    ++ numbers_of number violation
    ++ common_member violation.common
    ++ rest_of violation

-- the last line: how many violations there are
unfoldable pub end_of_lines : ℕ → List ℕ
end_of_lines violations = codes "{\"kind\":\"end\",\"violations\":" ++ decimal violations ++ codes "}\n"

-- all lines
unfoldable pub json_text : Rows → List ℕ
json_text rows =
    totals_line rows.totals
    ++ flat_map refused_line rows.refused.items
    ++ numbered dependency_line 0 rows.dependencies.items
    ++ numbered end_line 0 rows.ends.items
    ++ numbered (violation_line rows.ends.items) 0 rows.violations.items
    ++ numbered group_line 0 rows.groups.items
    ++ end_of_lines rows.count
