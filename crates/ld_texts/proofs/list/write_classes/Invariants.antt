use Rattle.std.proofs.Common.{◌≡◌, ◌++◌, None, drop}
use Rattle.std.specs.Option.{option_map}
use Rattle.ld_class.specs.Names.{plain_class}
use Rattle.ld_texts.specs.List.{lines_below}
use Rattle.ld_texts.proofs.list.write_classes.Given as goal

-- with the lines of the rows that are left it is the whole text
abbrev pub invariant-loop-row : goal.invariant-loop-row
invariant-loop-row l =
    l.text.items ++ lines_below l.figures (option_map plain_class l.above) (drop l.row-index l.rows) ≡ l.fn.text.items ++ lines_below l.figures None l.rows
