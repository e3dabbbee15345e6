use Rattle.std.proofs.Common.{◌≡◌, ◌++◌, ◌∙◌, ap, length}
use Rattle.std.specs.Prelude.{codes}
use Rattle.ld_texts.specs.Stats.{figure_line, figure_lines, of_classes, of_components, of_events, of_dependencies, of_traces, of_violations}
use Rattle.ld_texts.proofs.StatsLemmas.{behind}
use Rattle.ld_texts.proofs.stats.stats_text.Goals as goal

pub returns : goal.returns
returns g c =
    let sources = c.args.book.now in
    let verbs = c.in_ok-counted.counted.verbs in
    let depth = c.in_ok-counted.counted.depth in
    let chains = c.chain_count.result in
    let components = c.in_ok-write_components.ensures in
    let violations = c.in_ok-write_violations.ensures in
    let figures = of_components components.0 components.1.0 ++ of_violations violations.0 in
    let first : c.write_figure.new.text.items ≡ figure_line (codes "files", length c.args.places.now) =
    c.in_ok-write_figure.ensures ∙ (λ t. c.new-text.ensures.items t ++ figure_line (codes "files", c.count.ensures t)) in
    let last : c.write_violations.new.text.items ≡ c.write_figure.new.text.items
    ++ figure_lines (of_traces sources ++ of_events sources verbs ++ of_classes sources ++ of_dependencies sources chains depth ++ figures) =
    behind _ _ _ (of_traces sources) (of_events sources verbs ++ of_classes sources ++ of_dependencies sources chains depth ++ figures) c.in_ok-write_traces.ensures
    (behind _ _ _ (of_events sources verbs) (of_classes sources ++ of_dependencies sources chains depth ++ figures) c.in_ok-write_events.ensures
    (behind _ _ _ (of_classes sources) (of_dependencies sources chains depth ++ figures) c.in_ok-write_classes.ensures
    (behind _ _ _ (of_dependencies sources chains depth) figures c.in_ok-write_dependencies.ensures
    (behind _ _ _ (of_components components.0 components.1.0) (of_violations violations.0) components.1.1 violations.1.1)))) in
    record {
      verbs = verbs;
      chains = chains;
      depth = depth;
      cyclic = components.0;
      parts = components.1.0;
      found = violations.0;
      are = violations.1.0;
      lines = last ∙ ap (λ text. text ++ figure_lines (of_traces sources ++ of_events sources verbs ++ of_classes sources ++ of_dependencies sources chains depth ++ figures)) first;
    }
