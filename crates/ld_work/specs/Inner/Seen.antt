-- What a worker saw of the book of its desk. No contract of a `Desk` or of `work` cites this file.
use Rattle.std.specs.Prelude.{List, map}
use Rattle.ld_trace.specs.Sources.{PlainSource}
use Rattle.ld_history.specs.declared.rule.Entry.{Entry}

-- what a history notes of a source
abbrev pub entry_of : PlainSource → Entry
entry_of source = record { number = source.number; label = source.label; first_line = source.first_line; bytes = source.bytes }

abbrev pub entries_of : List PlainSource → List Entry
entries_of sources = map entry_of sources
