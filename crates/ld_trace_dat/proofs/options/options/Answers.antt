-- Each option is what the definition reads there.
use Rattle.std.proofs.Common.{◌≡◌, length, sym, ◌∙◌}
use Rattle.std.proofs.lemmas.Result.{err_from_is_err_and}
use Rattle.ld_trace_dat.specs.Options.{options, start_at}
use Rattle.ld_trace_dat.proofs.OptionLemmas.{ended, fails, goes_on, is_done}
use Rattle.ld_trace_dat.proofs.options.options.Goals as goal

pub returns-in_err-progress : goal.returns-in_err-progress
returns-in_err-progress c =
    let p = err_from_is_err_and c.from_residual.result c.from_residual.ensures.1 in
    rw (p.1, p.2) (fails c.args.bytes.now c.args.version (length c.args.bytes.now) c.loop.counter c.loop.progress c.in_err-progress.field-0.0
    (options c.args.bytes.now c.args.version (length c.args.bytes.now) (start_at c.args.at)) c.loop-test.true (sym c.in_err-progress.ensures) c.loop.invariant)

pub returns-then-progress : goal.returns-then-progress
returns-then-progress c =
    is_done c.args.bytes.now c.args.version (length c.args.bytes.now) c.loop.counter c.loop.progress c.in_ok-progress.progress
    (options c.args.bytes.now c.args.version (length c.args.bytes.now) (start_at c.args.at)) c.loop-test.true (sym c.in_ok-progress.ensures) c.if-progress.true c.loop.invariant

pub loop-preserved : goal.loop-preserved
loop-preserved c =
    goes_on c.args.bytes.now c.args.version (length c.args.bytes.now) c.loop.counter c.loop.progress c.in_ok-progress.progress
    (options c.args.bytes.now c.args.version (length c.args.bytes.now) (start_at c.args.at)) c.loop-test.true (sym c.in_ok-progress.ensures) c.if-progress.false c.loop.invariant

pub returns : goal.returns
returns c =
    ended c.args.bytes.now c.args.version (length c.args.bytes.now) c.loop.counter c.loop.progress
    (options c.args.bytes.now c.args.version (length c.args.bytes.now) (start_at c.args.at)) c.loop-test.false c.loop.invariant
