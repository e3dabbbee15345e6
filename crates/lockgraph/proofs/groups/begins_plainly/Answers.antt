-- A header at the front.
use Rattle.std.proofs.lemmas.Bool.{OnTrue_at, OnTrue_from}
use Rattle.ld_trace.specs.Lines.{lines}
use Rattle.lockgraph.specs.Groups.{StartsWithHeader}
use Rattle.lockgraph.proofs.groups.begins_plainly.Goals as goal

pub returns-in-Some : goal.returns-in-Some
returns-in-Some c =
    OnTrue_from c.is_plain_header.result (StartsWithHeader c.args.bytes.now)
    (λ yes. (c.in-Some.line.now, (lines c.in-Some.field-0-1.now, (c.in-Some.ensures.first, OnTrue_at yes c.is_plain_header.ensures))))
