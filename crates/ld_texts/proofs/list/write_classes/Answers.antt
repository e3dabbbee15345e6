-- One more line is written.
use Rattle.std.proofs.Common.{◌≡◌, ◌<◌, ◌+◌, ◌++◌, ◌∙◌, ℕ, List, Option, Some, ap, append_assoc, drop, get_or, length, sym}
use Rattle.std.proofs.lemmas.List.{at_drop_more}
use Rattle.ld_class.specs.Names.{PlainClass, plain_class}
use Rattle.ld_texts.specs.declared.figures.Figures.{Figures}
use Rattle.ld_texts.specs.declared.list.Level.{Level}
use Rattle.ld_overview.specs.declared.overview.ClassRow.{ClassRow}
use Rattle.ld_texts.specs.List.{class_line, level_of, lines_below}
use Rattle.ld_texts.proofs.list.write_classes.Goals as goal

line-more : (figures : List Figures) (above : Option PlainClass) (rows : List ClassRow) (i : ℕ) (d : ClassRow) → i < length rows
    → (level : Level) → level ≡ level_of above (plain_class (get_or rows i d).class)
    → (whole old new : List ℕ) → new ≡ old ++ class_line figures level (get_or rows i d) → old ++ lines_below figures above (drop i rows) ≡ whole
    → new ++ lines_below figures (Some (plain_class (get_or rows i d).class)) (drop (i + 1) rows) ≡ whole
line-more figures above rows i d within level is whole old new written so_far =
    ap (λ text. text ++ behind) (written ∙ ap (λ level. old ++ class_line figures level row) is)
    ∙ append_assoc old (class_line figures (level_of above (plain_class row.class)) row) behind
    ∙ ap (λ more. old ++ more) (sym (at_drop_more (lines_below figures above) rows i d within))
    ∙ so_far
  where
    row : ClassRow
    row = get_or rows i d

    behind : List ℕ
    behind = lines_below figures (Some (plain_class row.class)) (drop (i + 1) rows)

pub loop-row-preserved : goal.loop-row-preserved
loop-row-preserved c =
    line-more c.args.figures.now _ c.args.rows.now c.loop-row.row-index _ c.loop-row-test.true c.level_of.result c.level_of.ensures _ _ _ c.in_ok-write_row.ensures
    c.loop-row.invariant
