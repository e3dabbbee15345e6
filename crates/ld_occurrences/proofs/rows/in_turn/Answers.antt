-- Each trace fits, and its row is put behind the others.
use Rattle.std.proofs.Common.{rules, ◌≡◌, ◌<◌, ◌∙◌, ◌++◌, ◌∷◌, [], Some, None, ap, option_map, subst, sym}
use Rattle.std.proofs.lemmas.List.{get_or-map, length-map}
use Rattle.ld_trace.specs.Sources.{Fits, PlainSource, plain}
use Rattle.ld_rules.specs.declared.outcome.Listed.{Listed}
use Rattle.ld_occurrences.specs.Named.{plain_dependency}
use Rattle.ld_occurrences.specs.Occurrences.{occurrence_in, plain_occurrence}
use Rattle.ld_occurrences.proofs.RowLemmas.{rows-none, rows-some}
use Rattle.ld_occurrences.proofs.rows.in_turn.Goals as goal
use Rattle.ld_occurrences.proofs.rows.in_turn.Goals.{in-Some+in_ok-push, in_default}

no_source : PlainSource
no_source = record { number = 0; label = []; first_line = 0; bytes = [] }

pub occurrence_in-requires : goal.occurrence_in-requires
occurrence_in-requires c =
    let traces = c.args.traces.now in
    let i = c.loop-trace.trace-index in
    subst Fits (get_or-map (λ (t : Listed). plain t.source) traces i _ no_source c.loop-trace-test.true)
    (c.requires i no_source (subst (λ n. i < n) (sym (length-map traces (λ (t : Listed). plain t.source))) c.loop-trace-test.true))

pub loop-trace-preserved : goal.loop-trace-preserved
loop-trace-preserved c =
    elim c.match-branch-2.branch [
      | in-Some+in_ok-push w ↦
          let items : c.match-branch-2.rows.items ≡ c.loop-trace.rows.items ++ w.in-Some.row ∷ [] = search rules in
          let some : Some w.in-Some.row ≡ c.in_ok-row.field-0 = search rules in
          rows-some (occurrence_in (plain_dependency c.args.what)) c.args.traces.now c.loop-trace.trace-index _ c.loop-trace-test.true
          c.loop-trace.rows.items c.loop-trace.invariant c.match-branch-2.rows.items w.in-Some.row items
          (ap (option_map plain_occurrence) some ∙ c.in_ok-row.ensures)
      | in_default w ↦
          let items : c.match-branch-2.rows.items ≡ c.loop-trace.rows.items = search rules in
          let none : None ≡ c.in_ok-row.field-0 = search rules in
          rows-none (occurrence_in (plain_dependency c.args.what)) c.args.traces.now c.loop-trace.trace-index _ c.loop-trace-test.true
          c.loop-trace.rows.items c.loop-trace.invariant c.match-branch-2.rows.items items
          (ap (option_map plain_occurrence) none ∙ c.in_ok-row.ensures)
    ]
