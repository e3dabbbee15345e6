-- One line more is written.
use Rattle.std.proofs.Common.{◌∙◌, ◌++◌, ap, append_assoc, flat_map, sym}
use Rattle.ld_trace.specs.Lines.{lines}
use Rattle.ld_colours.specs.Colours.{styled}
use Rattle.ld_colours.proofs.colours.coloured.Goals as goal

pub loop-line-preserved : goal.loop-line-preserved
loop-line-preserved c =
    let line = c.in-Some.line.now in
    let rest = flat_map styled (lines c.in-Some.after.now) in
    let old = c.loop-line.shown.items in
    ap (λ text. text ++ rest) c.in_ok-write_styled.ensures
    ∙ append_assoc old (styled line) rest
    ∙ ap (λ left. old ++ flat_map styled left) (sym c.in-Some.ensures.first)
    ∙ c.loop-line.invariant
