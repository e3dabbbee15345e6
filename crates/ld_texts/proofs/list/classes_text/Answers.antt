-- The rows in their new order are written into an empty text.
use Rattle.std.proofs.Common.{rules, ◌≡◌, ◌++◌, ◌∙◌, [], None}
use Rattle.ld_texts.specs.List.{lines_below}
use Rattle.ld_texts.proofs.list.classes_text.Goals as goal

pub returns : goal.returns
returns c =
    let empty : c.new-text.result.items ≡ [] = search rules in
    let lent : c.deref.result.now ≡ c.sort_by_locks.new.rows.items = search rules in
    record {
      figures = c.args.figures.now;
      rows = c.in_ok-rows.rows.items;
      are = c.in_ok-rows.ensures;
      order = c.sort_by_locks.new.rows.items;
      same = c.sort_by_locks.ensures;
      lines = c.in_ok-write_classes.ensures ∙ (λ t. empty t ++ lines_below c.args.figures.now None (lent t));
    }
