-- One line more is written, or left out.
use Rattle.std.proofs.Common.{◌≡◌, ◌∙◌, ℕ, ◌++◌, [], ap, append_assoc, arith, cond, if◌then◌else◌, length, length-append, sym}
use Rattle.ld_baseline.specs.Gone.{going, is_gone, is_in, with_lf}
use Rattle.ld_baseline.proofs.NewsLemmas.{count_gone-line, going-line, one_at_most}
use Rattle.ld_baseline.proofs.gone.going.Goals as goal

pub loop-line-preserved : goal.loop-line-preserved
loop-line-preserved c =
    let there = is_in c.args.violations.now in
    let line = c.in-Some.line.now in
    let after = c.in-Some.after.now in
    let rest = c.loop-line.rest.now in
    let i = c.loop-line.invariant in
    let old = c.loop-line.text.items in
    let kept = if is_gone there line then with_lf line else [] in
    let first = c.in-Some.ensures.first in
    let added : c.one_if-count.result ≡ cond {A = ℕ} (is_gone there line) 1 0 = c.one_if-count.ensures ∙ ap (λ b. cond {A = ℕ} b 1 0) c.is_gone.ensures in
    record {
      text =
          ap (λ text. text ++ going there after) c.in_ok-write_gone.ensures
          ∙ append_assoc old kept (going there after)
          ∙ ap (λ text. old ++ text) (sym (going-line there rest line after first))
          ∙ i.text;
      count = omega (arith, added, count_gone-line there rest line after first, i.count);
      within = omega (arith, added, one_at_most (is_gone there line), i.within, ap length c.in-Some.ensures.whole, length-append line after, c.in-Some.ensures.nonempty);
    }
