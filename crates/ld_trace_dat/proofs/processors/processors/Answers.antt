-- Each processor is what the definition reads there.
use Rattle.std.proofs.Common.{◌≡◌, List, ℕ, [], ◌∷◌, ◌++◌, map, arith, sym, rules}
use Rattle.std.proofs.lemmas.Grind.{common_steps}
use Rattle.std.proofs.lemmas.Result.{err_from_is_err_and}
use Rattle.ld_trace_dat.specs.Recordings.{plain_processor, processor_at, processors}
use Rattle.ld_trace_dat.proofs.ManyLemmas.{ended, fails, goes_on}
use Rattle.ld_trace_dat.proofs.processors.processors.Goals as goal

pub returns-in_err-processor : goal.returns-in_err-processor
returns-in_err-processor c =
    let p = err_from_is_err_and c.from_residual.result c.from_residual.ensures.1 in
    rw (p.1, p.2) (fails (processor_at c.args.table.now c.args.bytes.now c.args.version) (map plain_processor c.loop.found.items) c.args.count c.loop.counter c.loop.row c.in_err-processor.field-0.0
    (processors c.args.table.now c.args.bytes.now c.args.version c.args.count c.args.first) c.loop-test.true (sym c.in_err-processor.ensures) c.loop.invariant)

pub loop-preserved : goal.loop-preserved
loop-preserved c =
    let kept : map plain_processor c.push.new.self.items ≡ map plain_processor c.loop.found.items ++ plain_processor c.in_ok-processor.processor ∷ [] =
    first_of (search (rules, c.in_ok-push.ensures.items), grind (arith, common_steps, c.in_ok-push.ensures.items)) in
    rw kept (goes_on (processor_at c.args.table.now c.args.bytes.now c.args.version) (map plain_processor c.loop.found.items) c.args.count c.loop.counter c.loop.row c.in_ok-processor.next
    (plain_processor c.in_ok-processor.processor)
    (processors c.args.table.now c.args.bytes.now c.args.version c.args.count c.args.first) c.loop-test.true (sym c.in_ok-processor.ensures) c.loop.invariant)

pub returns : goal.returns
returns c =
    ended (processor_at c.args.table.now c.args.bytes.now c.args.version) (map plain_processor c.loop.found.items) c.args.count c.loop.counter c.loop.row
    (processors c.args.table.now c.args.bytes.now c.args.version c.args.count c.args.first) c.loop-test.false c.loop.invariant
