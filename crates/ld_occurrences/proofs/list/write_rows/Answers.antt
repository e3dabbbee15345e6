-- One more row is written, and at the end all are.
use Rattle.std.proofs.Common.{List, map, refl, subst}
use Rattle.std.proofs.lemmas.List.{take_all}
use Rattle.ld_trace.specs.Sources.{plain}
use Rattle.ld_occurrences.specs.List.{AreWritten}
use Rattle.ld_occurrences.specs.declared.rows.Occurrence.{Occurrence}
use Rattle.ld_occurrences.proofs.ListLemmas.{more-written, none-written}
use Rattle.ld_occurrences.proofs.list.write_rows.Goals as goal

pub loop-row-init : goal.loop-row-init
loop-row-init c = none-written _ _ _ _ refl _ refl

pub loop-row-preserved : goal.loop-row-preserved
loop-row-preserved c =
    more-written _ _ _ c.args.rows.now c.loop-row.row-index _ c.loop-row-test.true _ c.loop-row.invariant _ c.place_of-place.ensures _ c.in_ok-write_occurrence.ensures

pub returns : goal.returns
returns c =
    subst (λ (rows : List Occurrence). AreWritten c.args.shown.now.files.now (map plain c.args.shown.now.sources.now) rows c.args.text.now.items c.loop-row.text.items)
    (take_all c.loop-row.row-index c.args.rows.now c.loop-row-test.false) c.loop-row.invariant
