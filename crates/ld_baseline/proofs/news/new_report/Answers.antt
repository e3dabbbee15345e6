-- What the known lines say is what the known text says.
use Rattle.std.proofs.Common.{◌≡◌, ◌∙◌, ◌++◌, ap}
use Rattle.ld_baseline.specs.Gone.{count_gone}
use Rattle.ld_baseline.specs.Known.{has_said, is_among}
use Rattle.ld_baseline.specs.News.{count_staying, gone_note, last_line, staying}
use Rattle.ld_baseline.proofs.news.new_report.Goals as goal

pub returns-clause-text : goal.returns-clause-text
returns-clause-text c =
    let report = c.args.report.now in
    let note = gone_note (count_gone report c.args.known.now) in
    let same : is_among c.in_ok-known.known ≡ has_said c.args.known.now = λ i said. c.in_ok-known.ensures said i in
    c.in_ok-write_last.ensures
    ∙ ap (λ text. text ++ last_line c.in_ok-new.new.count) c.in_ok-write_note.ensures
    ∙ ap (λ text. (text ++ gone_note c.in_ok-gone.gone.count) ++ last_line c.in_ok-new.new.count) c.in_ok-new.ensures.text
    ∙ ap (λ count. (staying (is_among c.in_ok-known.known) report ++ gone_note count) ++ last_line c.in_ok-new.new.count) c.in_ok-gone.ensures.count
    ∙ ap (λ count. (staying (is_among c.in_ok-known.known) report ++ note) ++ last_line count) c.in_ok-new.ensures.count
    ∙ ap (λ has. (staying has report ++ note) ++ last_line (count_staying has report)) same

pub returns-clause-count : goal.returns-clause-count
returns-clause-count c =
    let same : is_among c.in_ok-known.known ≡ has_said c.args.known.now = λ i said. c.in_ok-known.ensures said i in
    c.in_ok-new.ensures.count ∙ ap (λ has. count_staying has c.args.report.now) same
