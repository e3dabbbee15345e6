-- The recording that the bytes of a file hold.
use Rattle.std.specs.Prelude.{ℕ, ◌+◌, ◌^◌, Bool, true, ◌||◌, ◌==◌, nat_lt, nat_le, List, [], ◌∷◌, ◌++◌, length, map, Option, Some, None, Result, Ok, Err, if◌then◌else◌, codes}
use Rattle.std.specs.Str.{bytes_eq}
use Rattle.ld_trace_dat.specs.declared.fault.DatFault.{DatFault}
use Rattle.ld_trace_dat.specs.declared.fault.Wrong.TheVariants as wrongs
use Rattle.ld_trace_dat.specs.declared.options.Progress.{Progress}
use Rattle.ld_trace_dat.specs.declared.processors.Processor.{Processor}
use Rattle.ld_trace_dat.specs.declared.processors.Row.{Row}
use Rattle.ld_trace_dat.specs.declared.recording.Recording.{Recording}
use Rattle.ld_trace_dat.specs.declared.section.Span.{Span}
use Rattle.ld_trace_dat.specs.declared.start.Version.{Version}
use Rattle.ld_trace_dat.specs.declared.start.Version.TheVariants as versions
use Rattle.ld_trace_dat.specs.Parts.{◌>>=◌, fault, key, long, long_sized, part, text, word, word_sized}
use Rattle.ld_trace_dat.specs.Lists.{PlainSystem, many, plain_system, systems, texts}
use Rattle.ld_trace_dat.specs.Options.{options, section, start, start_at}

-- a processor, and its pages without where they lie in memory
pub record PlainProcessor : Type 0 where
  pub number : ℕ
  pub pages : List ℕ

abbrev pub plain_processor : Processor → PlainProcessor
plain_processor p = record { number = p.number; pages = p.pages.now }

-- The number of the processor of a row, and where the rest of the row stands. In version 6 they count from 0.
abbrev pub number_at : List ℕ → Version → Row → Result (ℕ × ℕ) DatFault
number_at table versions.Six row = Ok (row.number, row.at)
number_at table versions.Seven row = word table row.at

-- The pages of a processor, and where the next one's may stand: none, or behind those of the one before it.
unfoldable pub pages_at : List ℕ → ℕ → ℕ → ℕ → ℕ → Result (List ℕ × ℕ) DatFault
pages_at bytes at low offset size =
    if size == 0 then Ok ([], low)
    else if nat_lt offset low then fault at wrongs.Overlap
    else part bytes offset size

-- The processor of the next row: in version 7 its number, above that of the one before it, and then the offset and
-- the size of its pages. No kernel has 2 ^ 16 processors.
unfoldable pub processor_at : List ℕ → List ℕ → Version → Row → Result (PlainProcessor × Row) DatFault
processor_at table bytes version row = do
  number ← number_at table version row
  rises ← if nat_lt number.0 row.number || nat_le (2 ^ 16) number.0 then fault row.at wrongs.Processor else Ok true
  offset ← long table number.1
  size ← long table offset.1
  pages ← pages_at bytes number.1 row.low offset.0 size.0
  Ok (record { number = number.0; pages = pages.0 }, record { at = size.1; number = number.0 + 1; low = pages.1 })

-- so many rows
abbrev pub processors : List ℕ → List ℕ → Version → ℕ → Row → Result (List PlainProcessor × Row) DatFault
processors table bytes version count row = many (processor_at table bytes version) count row

-- a recording without where its texts lie in memory
pub record PlainRecording : Type 0 where
  pub header_page : List ℕ
  pub systems : List PlainSystem
  pub symbols : List ℕ
  pub names : List ℕ
  pub clock : List ℕ
  pub processors : List PlainProcessor

abbrev pub plain : Recording → PlainRecording
plain r = record {
  header_page = r.header_page.now;
  systems = map plain_system r.systems.items;
  symbols = r.symbols.now;
  names = r.names.now;
  clock = r.clock.now;
  processors = map plain_processor r.processors.items;
}

-- a text with a zero behind it
abbrev pub ended : List ℕ → List ℕ
ended name = name ++ 0 ∷ []

-- the text of `header_page`, and behind it that of `header_event`
unfoldable pub header_info : List ℕ → ℕ → Result (List ℕ × ℕ) DatFault
header_info bytes at = do
  page_at ← key bytes at (ended (codes "header_page")) wrongs.Name
  page ← long_sized bytes page_at
  event_at ← key bytes page.1 (ended (codes "header_event")) wrongs.Name
  event ← long_sized bytes event_at
  Ok (page.0, event.1)

-- behind the word for pages
unfoldable pub kind_at : List ℕ → ℕ → Result ℕ DatFault
kind_at bytes at = do
  kind ← part bytes at 10
  if bytes_eq kind.0 (ended (codes "flyrecord")) then Ok kind.1
      else if bytes_eq kind.0 (ended (codes "latency  ")) then fault at wrongs.Latency
      else fault at wrongs.Name

-- that no option names a second buffer
abbrev pub alone : Option Span → Result Bool DatFault
alone None = Ok true
alone (Some span) = fault span.at wrongs.Buffers

-- The options of version 6, if there are some, none of which names a further buffer; then the word for pages.
unfoldable pub options_6 : List ℕ → ℕ → Result Progress DatFault
options_6 bytes at = do
  kind ← part bytes at 10
  said ← if bytes_eq kind.0 (ended (codes "options  ")) then options bytes versions.Six (length bytes) (start_at kind.1) else Ok (start_at at)
  one ← alone said.found.buffer
  end ← kind_at bytes said.at
  Ok (record said { at = end })

-- the clock of version 6, which follows the table of processors if an option says so
abbrev pub clock_6 : List ℕ → Option Span → ℕ → Result (List ℕ × ℕ) DatFault
clock_6 bytes None at = Ok ([], at)
clock_6 bytes (Some span) at = long_sized bytes at

abbrev pub first_row : ℕ → ℕ → Row
first_row at low = record { at = at; number = 0; low = low }

-- Version 6: the parts one behind the other, and in a table the offset and the size of each processor's pages.
unfoldable pub said_6 : List ℕ → ℕ → Result PlainRecording DatFault
said_6 bytes at = do
  header_page ← header_info bytes at
  own ← texts bytes header_page.1
  events ← systems bytes own.1
  symbols ← word_sized bytes events.1
  printed ← word_sized bytes symbols.1
  names ← long_sized bytes printed.1
  count ← word bytes names.1
  said ← options_6 bytes count.1
  found ← processors bytes bytes versions.Six count.0 (first_row said.at said.at)
  clock ← clock_6 bytes said.found.clock found.1.at
  Ok (record {
    header_page = header_page.0;
    systems = events.0;
    symbols = symbols.0;
    names = names.0;
    clock = clock.0;
    processors = found.0;
  })

-- the bytes up to the end of the section of this kind that an option names, and where its contents begin
unfoldable pub contents : List ℕ → Span → ℕ → Result (List ℕ × ℕ) DatFault
contents bytes option kind = do
  inside ← part bytes 0 option.end
  offset ← long inside.0 option.at
  held ← section bytes offset.0 kind
  within ← part bytes 0 held.end
  Ok (within.0, held.at)

-- an option that each file has
abbrev pub named : Option Span → ℕ → Result Span DatFault
named (Some span) end = Ok span
named None end = fault end wrongs.Missing

-- texts that a file may lack
abbrev pub symbols_at : List ℕ → Option Span → Result (List ℕ × ℕ) DatFault
symbols_at bytes None = Ok ([], 0)
symbols_at bytes (Some option) = contents bytes option 19 >>= λ inside. word_sized inside.0 inside.1

abbrev pub names_at : List ℕ → Option Span → Result (List ℕ × ℕ) DatFault
names_at bytes None = Ok ([], 0)
names_at bytes (Some option) = contents bytes option 21 >>= λ inside. long_sized inside.0 inside.1

-- A buffer: the offset of its section, its name, its clock, the size of a page, and its processors, whose pages stand
-- in that section.
unfoldable pub buffer_at : List ℕ → Span → Result (List ℕ × List PlainProcessor) DatFault
buffer_at bytes option = do
  table ← part bytes 0 option.end
  offset ← long table.0 option.at
  name ← text table.0 offset.1
  clock ← text table.0 name.1
  page ← word table.0 clock.1
  count ← word table.0 page.1
  pages ← contents bytes option 3
  found ← processors table.0 pages.0 versions.Seven count.0 (first_row count.1 pages.1)
  Ok (clock.0, found.0)

-- where the first option stands, behind the name and the version of a way to compress
unfoldable pub first_option : List ℕ → ℕ → Result ℕ DatFault
first_option bytes at = do
  way ← text bytes at
  version ← text bytes way.1
  offset ← long bytes version.1
  inside ← section bytes offset.0 0
  Ok inside.at

-- Version 7: options name the sections in which the parts stand.
unfoldable pub said_7 : List ℕ → ℕ → Result PlainRecording DatFault
said_7 bytes at = do
  first ← first_option bytes at
  said ← options bytes versions.Seven (length bytes) (start_at first)
  headers ← named said.found.headers said.at
  formats ← named said.found.formats said.at
  buffer ← named said.found.buffer said.at
  header_inside ← contents bytes headers 16
  header_page ← header_info header_inside.0 header_inside.1
  events_inside ← contents bytes formats 18
  events ← systems events_inside.0 events_inside.1
  symbols ← symbols_at bytes said.found.symbols
  names ← names_at bytes said.found.names
  clocked ← buffer_at bytes buffer
  Ok (record {
    header_page = header_page.0;
    systems = events.0;
    symbols = symbols.0;
    names = names.0;
    clock = clocked.0;
    processors = clocked.1;
  })

-- the recording of either version
abbrev pub by_version : List ℕ → Version → ℕ → Result PlainRecording DatFault
by_version bytes versions.Six at = said_6 bytes at
by_version bytes versions.Seven at = said_7 bytes at

-- What the bytes of a file say: the texts and pages of a recording, or what is wrong and at which offset.
unfoldable pub recording_said : List ℕ → Result PlainRecording DatFault
recording_said bytes = start bytes >>= λ s. by_version bytes s.0 s.1
