-- A header in its plainest form is one of the stream.
use Rattle.std.proofs.Common.{◌≡◌, true, rules}
use Rattle.ld_trace.specs.Lines.{lines}
use Rattle.ld_trace.specs.Sources.{is_header}
use Rattle.ld_files.proofs.HeaderLemmas.{header-here, trace-there}
use Rattle.ld_files.proofs.streams.has_plain_header.Goals as goal

pub returns-then-is_plain_header : goal.returns-then-is_plain_header
returns-then-is_plain_header c =
    let header : is_header c.in-Some.line.now ≡ true = search rules in
    trace-there c.args.bytes.now
    (c.loop-line.invariant (header-here (lines c.loop-line.rest.now) c.in-Some.line.now (lines c.in-Some.after.now) c.in-Some.ensures.first header))
