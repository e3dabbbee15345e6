-- Each text is what the definition reads there.
use Rattle.std.proofs.Common.{◌≡◌, List, ℕ, [], ◌∷◌, ◌++◌, map, arith, sym, rules}
use Rattle.std.proofs.lemmas.Grind.{common_steps}
use Rattle.std.proofs.lemmas.Result.{err_from_is_err_and}
use Rattle.ld_trace_dat.specs.Parts.{long_sized}
use Rattle.ld_trace_dat.specs.Lists.{texts}
use Rattle.ld_trace_dat.proofs.ManyLemmas.{ended, fails, goes_on}
use Rattle.ld_trace_dat.proofs.formats.texts.Goals as goal

pub returns-in_err-text : goal.returns-in_err-text
returns-in_err-text c =
    let p = err_from_is_err_and c.from_residual-in_err-text.result c.from_residual-in_err-text.ensures.1 in
    rw (p.1, p.2) (fails (long_sized c.args.bytes.now) (map (λ t. t.now) c.loop.found.items) c.in_ok-count.count c.loop.counter c.loop.next c.in_err-text.field-0.0
    (texts c.args.bytes.now c.args.at) c.loop-test.true (sym c.in_err-text.ensures) c.loop.invariant)

pub loop-preserved : goal.loop-preserved
loop-preserved c =
    let kept : map (λ t. t.now) c.push.new.self.items ≡ map (λ t. t.now) c.loop.found.items ++ c.in_ok-text.text.now ∷ [] =
    first_of (search (rules, c.in_ok-push.ensures.items), grind (arith, common_steps, c.in_ok-push.ensures.items)) in
    rw kept (goes_on (long_sized c.args.bytes.now) (map (λ t. t.now) c.loop.found.items) c.in_ok-count.count c.loop.counter c.loop.next c.in_ok-text.end c.in_ok-text.text.now
    (texts c.args.bytes.now c.args.at) c.loop-test.true (sym c.in_ok-text.ensures) c.loop.invariant)

pub returns : goal.returns
returns c =
    ended (long_sized c.args.bytes.now) (map (λ t. t.now) c.loop.found.items) c.in_ok-count.count c.loop.counter c.loop.next
    (texts c.args.bytes.now c.args.at) c.loop-test.false c.loop.invariant
