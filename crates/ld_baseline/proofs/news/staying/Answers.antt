-- One line more is written, or left out.
use Rattle.std.proofs.Common.{◌≡◌, ◌∙◌, ℕ, ◌++◌, [], ap, append_assoc, arith, cond, if◌then◌else◌, length, length-append, sym}
use Rattle.ld_baseline.specs.Known.{is_among}
use Rattle.ld_baseline.specs.News.{is_new, staying, stays}
use Rattle.ld_baseline.proofs.NewsLemmas.{count-line, one_at_most, staying-line}
use Rattle.ld_baseline.proofs.news.staying.Goals as goal

pub loop-line-preserved : goal.loop-line-preserved
loop-line-preserved c =
    let has = is_among c.args.known.now in
    let line = c.in-Some.line.now in
    let after = c.in-Some.after.now in
    let rest = c.loop-line.rest.now in
    let i = c.loop-line.invariant in
    let old = c.loop-line.text.items in
    let kept = if stays has line then line else [] in
    let first = c.in-Some.ensures.first in
    let added : c.one_if-count.result ≡ cond {A = ℕ} (is_new has line) 1 0 = c.one_if-count.ensures ∙ ap (λ b. cond {A = ℕ} b 1 0) c.is_new.ensures in
    record {
      text =
          ap (λ text. text ++ staying has after) c.in_ok-write_line.ensures
          ∙ append_assoc old kept (staying has after)
          ∙ ap (λ text. old ++ text) (sym (staying-line has rest line after first))
          ∙ i.text;
      count = omega (arith, added, count-line has rest line after first, i.count);
      within = omega (arith, added, one_at_most (is_new has line), i.within, ap length c.in-Some.ensures.whole, length-append line after, c.in-Some.ensures.nonempty);
    }
