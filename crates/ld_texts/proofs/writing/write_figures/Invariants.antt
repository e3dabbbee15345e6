use Rattle.std.proofs.Common.{◌≡◌, ◌++◌, drop}
use Rattle.std.specs.Prelude.{map}
use Rattle.ld_texts.specs.Stats.{figure_lines}
use Rattle.ld_texts.proofs.writing.write_figures.Given as goal

-- with the lines of the figures that are left it is the whole text
abbrev pub invariant-loop-figure : goal.invariant-loop-figure
invariant-loop-figure l =
    l.text.items ++ figure_lines (map (λ figure. (figure.0.now, figure.1)) (drop l.figure-index l.figures))
    ≡ l.fn.text.items ++ figure_lines (map (λ figure. (figure.0.now, figure.1)) l.figures)
