-- The report of what is new, and comments behind it.
use Rattle.std.proofs.Common.{◌∙◌, ◌++◌, ap, flat_map, map, rules, sym}
use Rattle.std.specs.List.{list_any}
use Rattle.ld_trace.specs.Sources.{plain}
use Rattle.ld_baseline.proofs.KnownLemmas.{list_any-map}
use Rattle.ld_baseline.specs.News.{new_report}
use Rattle.ld_places.specs.ShownPlaces.{has_origin}
use Rattle.ld_files.specs.Comments.{comment_line}
use Rattle.lockgraph.proofs.news.news_in.Goals as goal

pub returns-clause-news : goal.returns-clause-news
returns-clause-news c = record {
  report = c.in_ok-report.report.items;
  remarks = map (λ remark. remark.items) c.deref-3.result.now;
  is = c.in_ok-report.ensures.text;
  text_is =
      c.in_ok-write_comments.ensures
      ∙ ap (λ text. text ++ flat_map comment_line (map (λ remark. remark.items) c.deref-3.result.now)) c.in_ok-new.ensures.text
      ∙ ap (λ report. new_report report c.args.known.now ++ flat_map comment_line (map (λ remark. remark.items) c.deref-3.result.now)) c.deref.ensures.value;
  few = λ one none.
      ap (map (λ remark. remark.items))
      (c.deref-3.ensures.value
      ∙ c.in_ok-remarks.ensures.few one
      (ap (list_any (λ source. has_origin (plain source))) c.as_slice.ensures.value ∙ sym (list_any-map plain has_origin c.args.checked.now.sources.items) ∙ none));
  verdict_is = search rules;
}
