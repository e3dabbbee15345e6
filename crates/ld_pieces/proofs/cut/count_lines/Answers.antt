-- Each LF that is found is one more, and none is left behind the last.
use Rattle.std.proofs.Common.{◌≡◌, ◌∙◌, ◌+◌, arith, ap, length, count_by, drop, suc}
use Rattle.std.proofs.lemmas.List.{length-drop}
use Rattle.ld_trace.specs.Inner.Splitting.{is_lf}
use Rattle.ld_pieces.proofs.CountLemmas.{count-first, count-none}
use Rattle.ld_pieces.proofs.cut.count_lines.Goals as goal

pub loop-at-preserved : goal.loop-at-preserved
loop-at-preserved c =
    let found = c.in-Some.ensures in
    let at = c.in-Some.at in
    let rest = c.loop-at.rest.now in
    let more = count-first rest at found.0.high found.0.before found.1 in
    let next : at + 1 ≡ suc at = omega arith in
    let behind = c.split_at.ensures.back ∙ ap (λ n. drop n rest) next in
    let counted = ap (count_by is_lf) behind in
    let left = ap length c.split_at.ensures.back ∙ length-drop (at + 1) rest in
    record {
      count = omega (arith, more, counted, c.loop-at.invariant.count);
      few = omega (arith, left, found.0.high, c.loop-at.invariant.few);
    }

pub returns-clause-count : goal.returns-clause-count
returns-clause-count c =
    let none = count-none c.loop-at.rest.now c.in_default.ensures in
    omega (arith, none, c.loop-at.invariant.count)
