use Rattle.std.proofs.Common.{◌≡◌, ◌++◌, ℕ, List, drop}
use Rattle.std.specs.Prelude.{decimal, map}
use Rattle.ld_texts.specs.declared.shape.SizeCount.{SizeCount}
use Rattle.ld_texts.specs.Stats.{figure_lines}
use Rattle.ld_texts.proofs.stats.write_sizes.Given as goal

-- with the lines of the sizes that are left it is the whole text
abbrev pub invariant-loop-part : goal.invariant-loop-part
invariant-loop-part l =
    l.text.items ++ figure_lines (map figure (drop l.part-index l.parts)) ≡ l.fn.text.items ++ figure_lines (map figure l.parts)
  where
    figure : SizeCount → List ℕ × ℕ
    figure part = (l.prefix ++ decimal part.classes, part.count)
