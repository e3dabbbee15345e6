use Rattle.std.proofs.Common.{map, take}
use Rattle.ld_trace.specs.Sources.{plain}
use Rattle.ld_occurrences.specs.List.{AreWritten}
use Rattle.ld_occurrences.proofs.list.write_rows.Given as goal

abbrev pub invariant-loop-row : goal.invariant-loop-row
invariant-loop-row l =
    AreWritten l.shown.files.now (map plain l.shown.sources.now) (take l.row-index l.rows) l.fn.text.items l.text.items
