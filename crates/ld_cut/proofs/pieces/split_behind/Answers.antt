-- As many lines stand in front of what is left.
use Rattle.std.proofs.Common.{◌≡◌, ◌∙◌, ◌-◌, ◌≤◌, ℕ, [], ap, arith, length, sym}
use Rattle.ld_trace.specs.Lines.{lines}
use Rattle.ld_cut.specs.Pieces.{behind_lines, first_lines}
use Rattle.ld_cut.proofs.PiecesLemmas.{all-first, behind-next, behind-none, drop-first, first-len, take-first}
use Rattle.ld_cut.proofs.pieces.split_behind.Goals as goal

pub loop-init : goal.loop-init
loop-init c = sym (behind-none c.args.bytes.now)

pub loop-preserved : goal.loop-preserved
loop-preserved c = behind-next c.loop.counter c.args.bytes.now c.in-Some._line.now c.in-Some.others.now (ap lines (sym c.loop.invariant) ∙ c.in-Some.ensures.first)

pub returns-in_default-clause-first : goal.returns-in_default-clause-first
returns-in_default-clause-first c =
    let low = c.loop-test.true in
    let none : behind_lines c.loop.counter c.args.bytes.now ≡ [] = sym c.loop.invariant ∙ c.in_default.ensures.first in
    (all-first c.loop.counter c.args.lines c.args.bytes.now (omega arith) none).0

pub returns-in_default-clause-behind : goal.returns-in_default-clause-behind
returns-in_default-clause-behind c =
    let low = c.loop-test.true in
    let none : behind_lines c.loop.counter c.args.bytes.now ≡ [] = sym c.loop.invariant ∙ c.in_default.ensures.first in
    (all-first c.loop.counter c.args.lines c.args.bytes.now (omega arith) none).1

pub overflow_sub-bytes : goal.overflow_sub-bytes
overflow_sub-bytes c = omega (arith, first-len c.loop.counter c.args.bytes.now, ap length c.loop.invariant)

pub returns-clause-first : goal.returns-clause-first
returns-clause-first c =
    let bytes = c.args.bytes.now in
    let n = c.loop.counter in
    let same : n ≡ c.args.lines = let over = c.loop-test.false in let within = c.loop.auto.counter-end in omega arith in
    let k : ℕ = length bytes - length c.loop.rest.now in
    let far : k ≡ length (first_lines n bytes) = omega (arith, first-len n bytes, ap length c.loop.invariant) in
    c.split_at.ensures.front ∙ take-first n k bytes far ∙ ap (λ m. first_lines m bytes) same

pub returns-clause-behind : goal.returns-clause-behind
returns-clause-behind c =
    let bytes = c.args.bytes.now in
    let n = c.loop.counter in
    let same : n ≡ c.args.lines = let over = c.loop-test.false in let within = c.loop.auto.counter-end in omega arith in
    let k : ℕ = length bytes - length c.loop.rest.now in
    let far : k ≡ length (first_lines n bytes) = omega (arith, first-len n bytes, ap length c.loop.invariant) in
    c.split_at.ensures.back ∙ drop-first n k bytes far ∙ ap (λ m. behind_lines m bytes) same
