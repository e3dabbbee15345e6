-- Each system is what the definition reads there.
use Rattle.std.proofs.Common.{◌≡◌, List, ℕ, [], ◌∷◌, ◌++◌, map, arith, sym, rules}
use Rattle.std.proofs.lemmas.Grind.{common_steps}
use Rattle.std.proofs.lemmas.Result.{err_from_is_err_and}
use Rattle.ld_trace_dat.specs.Lists.{plain_system, system_at, systems}
use Rattle.ld_trace_dat.proofs.ManyLemmas.{ended, fails_by, goes_on}
use Rattle.ld_trace_dat.proofs.formats.systems.Goals as goal

pub returns-in_err-system : goal.returns-in_err-system
returns-in_err-system c =
    let p = err_from_is_err_and c.from_residual-in_err-system.result c.from_residual-in_err-system.ensures.1 in
    rw (p.1, p.2) (fails_by (system_at c.args.bytes.now) (map plain_system c.loop.found.items) c.in_ok-count.count c.loop.counter c.loop.next c.in_err-system.field-0.0
    (systems c.args.bytes.now c.args.at) c.loop-test.true c.in_err-system.ensures c.loop.invariant)

pub loop-preserved : goal.loop-preserved
loop-preserved c =
    let kept : map plain_system c.push.new.self.items ≡ map plain_system c.loop.found.items ++ plain_system c.in_ok-system.system ∷ [] =
    first_of (search (rules, c.in_ok-push.ensures.items), grind (arith, common_steps, c.in_ok-push.ensures.items)) in
    rw kept (goes_on (system_at c.args.bytes.now) (map plain_system c.loop.found.items) c.in_ok-count.count c.loop.counter c.loop.next c.in_ok-system.end (plain_system c.in_ok-system.system)
    (systems c.args.bytes.now c.args.at) c.loop-test.true c.in_ok-system.ensures c.loop.invariant)

pub returns : goal.returns
returns c =
    ended (system_at c.args.bytes.now) (map plain_system c.loop.found.items) c.in_ok-count.count c.loop.counter c.loop.next
    (systems c.args.bytes.now c.args.at) c.loop-test.false c.loop.invariant
