-- The lines that end among the quiet bytes are skipped.
use Rattle.std.proofs.Common.{◌+◌, sym, ◌∙◌}
use Rattle.std.proofs.lemmas.List.{take_rest}
use Rattle.ld_trace.proofs.SkipLemmas.{skipped-quiet}
use Rattle.ld_trace.proofs.others.skip_others.Goals as goal

pub returns-in-Some : goal.returns-in-Some
returns-in-Some c =
    let bytes = c.args.bytes.now in
    let last = c.in-Some.last in
    let quiet = c.quiet_front-quiet.ensures in
    let found = c.in-Some.ensures in
    rw (take_rest bytes (last + 1), quiet.ends)
    (skipped-quiet bytes _ last (record { quiet = quiet.quiet; within = quiet.within; first = sym c.may_begin.ensures ∙ c.if-may_begin.false }) found.0 found.1)
