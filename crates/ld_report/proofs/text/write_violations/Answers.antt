use Rattle.std.proofs.Common.{◌≡◌, ◌++◌, ◌∙◌, List, ℕ, ap, append_assoc, flat_map, map, sym}
use Rattle.std.proofs.lemmas.List.Concat.{flat_map-append}
use Rattle.std.proofs.lemmas.Result.{on_ok_weaker}
use Rattle.ld_book.specs.Findings.{plain_conflict_row, plain_cycle_row}
use Rattle.ld_report.specs.Report.{conflict_line, cycle_line, forbidden_line}
use Rattle.ld_report.proofs.text.write_violations.Goals as goal

pub returns : goal.returns
returns c =
    let traces = c.args.traces.now in
    let findings = c.args.findings.now in
    let old = c.args.text.now.items in
    let cycles = flat_map (cycle_line traces) (map plain_cycle_row findings.cycles) in
    let conflicts = flat_map (conflict_line traces) (map plain_conflict_row findings.conflicts) in
    let hard = flat_map (forbidden_line traces) findings.forbidden.hard in
    let soft = flat_map (forbidden_line traces) findings.forbidden.soft in
    let with_cycles : c.write_cycles.new.text.items ≡ old ++ cycles =
    c.in_ok-write_cycles.ensures ∙ ap (λ rows. old ++ flat_map (cycle_line traces) (map plain_cycle_row rows)) c.items.ensures in
    let with_conflicts : c.write_conflicts.new.text.items ≡ old ++ cycles ++ conflicts =
    c.in_ok-write_conflicts.ensures
    ∙ ap (λ rows. c.write_cycles.new.text.items ++ flat_map (conflict_line traces) (map plain_conflict_row rows)) c.items-2.ensures
    ∙ ap (λ (text : List ℕ). text ++ conflicts) with_cycles in
    let joined : old ++ cycles ++ conflicts ++ hard ++ soft ≡ old ++ (cycles ++ conflicts ++ (hard ++ soft)) = simp append_assoc in
    on_ok_weaker c.write_all_forbidden-2.result
    (λ is. is
    ∙ ap (λ (text : List ℕ). text ++ soft) (c.in_ok-write_all_forbidden.ensures ∙ ap (λ (text : List ℕ). text ++ hard) with_conflicts)
    ∙ joined
    ∙ ap (λ (text : List ℕ). old ++ (cycles ++ conflicts ++ text)) (sym (flat_map-append (forbidden_line traces) findings.forbidden.hard findings.forbidden.soft)))
    c.write_all_forbidden-2.ensures
