use Rattle.std.proofs.Common.{◌≡◌, ◌+◌, ◌++◌, ◌∷◌, [], ◌∙◌, true, false, All, OnOk, ap, arith, length, length-append, subst, sym}
use Rattle.std.proofs.lemmas.List.{length-map}
use Rattle.std.proofs.lemmas.List.Elements.{All-weaker}
use Rattle.std.specs.Prelude.{codes, filter, not}
use Rattle.ld_overview.specs.OfBook.Findings.{plain_conflict_row, plain_cycle_row, plain_findings}
use Rattle.ld_rules.specs.Flags.{same_state}
use Rattle.ld_trace.specs.declared.event.State.TheVariants.{Hard, Soft}
use Rattle.ld_texts.specs.Stats.{conflicts_of, figure_lines, forbidden_of, is_recursion}
use Rattle.ld_texts.proofs.StatsLemmas.{count-first, count-map, count-second}
use Rattle.ld_texts.proofs.violations.write_found.Goals as goal

pub returns : goal.returns
returns c =
    let found = plain_findings c.args.findings.now in
    let hard : All (λ row. same_state Hard row.state ≡ true) c.args.findings.now.forbidden.hard =
    All-weaker (λ row. row.state ≡ Hard) (λ row. same_state Hard row.state ≡ true) (λ row is. ap (same_state Hard) is) _ c.requires.hard in
    let not_soft : All (λ row. same_state Soft row.state ≡ false) c.args.findings.now.forbidden.hard =
    All-weaker (λ row. row.state ≡ Hard) (λ row. same_state Soft row.state ≡ false) (λ row is. ap (same_state Soft) is) _ c.requires.hard in
    let soft : All (λ row. same_state Soft row.state ≡ true) c.args.findings.now.forbidden.soft =
    All-weaker (λ row. row.state ≡ Soft) (λ row. same_state Soft row.state ≡ true) (λ row is. ap (same_state Soft) is) _ c.requires.soft in
    let not_hard : All (λ row. same_state Hard row.state ≡ false) c.args.findings.now.forbidden.soft =
    All-weaker (λ row. row.state ≡ Soft) (λ row. same_state Hard row.state ≡ false) (λ row is. ap (same_state Hard) is) _ c.requires.soft in
    let hards : c.len-hard.result ≡ forbidden_of Hard found.forbidden =
    c.len-hard.ensures.len ∙ sym (count-first (λ row. same_state Hard row.state) _ _ hard not_hard) in
    let softs : c.len-soft.result ≡ forbidden_of Soft found.forbidden =
    c.len-soft.ensures.len ∙ sym (count-second (λ row. same_state Soft row.state) _ _ not_soft soft) in
    let cycles = c.args.findings.now.cycles in
    let conflicts = c.args.findings.now.conflicts in
    let recursive : c.recursions.result ≡ length (filter is_recursion found.cycles) =
    c.recursions.ensures ∙ ap (λ rows. length (filter (λ row. is_recursion (plain_cycle_row row)) rows)) c.items-cycles.ensures
    ∙ sym (count-map plain_cycle_row is_recursion cycles) in
    let inverse : c.inversions.result ≡ length (filter (λ row. not (is_recursion row)) found.cycles) =
    c.inversions.ensures ∙ ap (λ rows. length (filter (λ row. not (is_recursion (plain_cycle_row row))) rows)) c.items-cycles.ensures
    ∙ sym (count-map plain_cycle_row (λ row. not (is_recursion row)) cycles) in
    let conflicts_hard : c.conflicts_of.result ≡ conflicts_of Hard found.conflicts =
    c.conflicts_of.ensures ∙ ap (λ rows. length (filter (λ row. same_state Hard (plain_conflict_row row).state) rows)) c.items-conflicts.ensures
    ∙ sym (count-map plain_conflict_row (λ row. same_state Hard row.state) conflicts) in
    let conflicts_soft : c.conflicts_of-2.result ≡ conflicts_of Soft found.conflicts =
    c.conflicts_of-2.ensures ∙ ap (λ rows. length (filter (λ row. same_state Soft (plain_conflict_row row).state) rows)) c.items-conflicts.ensures
    ∙ sym (count-map plain_conflict_row (λ row. same_state Soft row.state) conflicts) in
    let all : length c.items-cycles.result.now + length c.items-conflicts.result.now + (c.len-hard.result + c.len-soft.result)
    ≡ length found.cycles + length found.conflicts + length found.forbidden =
    omega (
      arith,
      ap length c.items-cycles.ensures,
      ap length c.items-conflicts.ensures,
      length-map cycles plain_cycle_row,
      length-map conflicts plain_conflict_row,
      c.len-hard.ensures.len,
      c.len-soft.ensures.len,
      length-append c.args.findings.now.forbidden.hard c.args.findings.now.forbidden.soft,
    ) in
    subst (λ text. OnOk c.write_figures.result (c.write_figures.new.text.items ≡ c.args.text.now.items ++ text))
    (λ t. figure_lines ((codes "violations", all t) ∷ (codes "recursions", recursive t) ∷ (codes "inversions", inverse t)
    ∷ (codes "conflicts-hard", conflicts_hard t) ∷ (codes "conflicts-soft", conflicts_soft t) ∷ (codes "forbidden-hard", hards t)
    ∷ (codes "forbidden-soft", softs t) ∷ []))
    c.write_figures.ensures
