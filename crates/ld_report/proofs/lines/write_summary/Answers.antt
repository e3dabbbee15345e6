use Rattle.std.proofs.Common.{◌∷◌, [], codes, decimal}
use Rattle.ld_report.proofs.Texts.{parts_in_line}
use Rattle.ld_report.proofs.lines.write_summary.Goals as goal

pub returns : goal.returns
returns c =
    let t = c.args.totals.now in
    parts_in_line c.args.text.now.items (codes "traces ") (decimal t.traces) (codes " refused ") (decimal t.refused) (codes " events ")
    (decimal t.events) (codes " classes ") (decimal t.classes) (codes " dependencies ") (decimal t.dependencies) (10 ∷ [])
    c.write_number.new.text.items c.write_number-2.new.text.items c.write_number-3.new.text.items c.write_number-4.new.text.items c.write_number-5.new.text.items c.push.new.self.items
    c.in_ok-write_number.ensures c.in_ok-write_number-2.ensures c.in_ok-write_number-3.ensures c.in_ok-write_number-4.ensures c.in_ok-write_number-5.ensures c.in_ok-push.ensures.items
