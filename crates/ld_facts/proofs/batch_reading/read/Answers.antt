use Rattle.std.proofs.Common.{rules, ◌∙◌, ap, arith, length, subst, sym}
use Rattle.ld_trace.specs.Sources.{plain}
use Rattle.ld_rules.specs.Union.{classes_of}
use Rattle.ld_batch.specs.Inner.Names.{IsLonger}
use Rattle.ld_facts.specs.declared.scan.Scan.{Scan}
use Rattle.ld_facts.specs.Inner.Kept.{IsRead, IsReady}
use Rattle.ld_facts.proofs.BatchLemmas.{begins, room-left}
use Rattle.ld_batch.proofs.NameLemmas.{longer_all}
use Rattle.ld_facts.proofs.RowLemmas.{names_longer}
use Rattle.ld_facts.proofs.batch_reading.read.Goals as goal

pub returns-clause-begun : goal.returns-clause-begun
returns-clause-begun c =
    let is : IsReady c.begin.new.self = search rules in
    let shows : IsRead c.args.scan.now (plain c.args.source) c.begin.new.self = search rules in
    begins c.args.scan.now c.begin.new.self (plain c.args.source) is shows (room-left c.args.scan.now c.begin.new.self (plain c.args.source) shows (omega (arith, c.requires.room)))

pub add-requires-clause-few : goal.add-requires-clause-few
add-requires-clause-few c =
    let few = room-left c.args.scan.now c.scan_source.new.scan (plain c.args.source) c.in_ok-outcome.ensures.shows (omega (arith, c.requires.room)) in
    omega (arith, few)

pub add-requires-clause-names : goal.add-requires-clause-names
add-requires-clause-names c =
    let shows = c.in_ok-outcome.ensures.shows in
    names_longer c.args.scan.now.classes c.scan_source.new.scan.classes (length (classes_of (plain c.args.source)))
    (subst (λ all. IsLonger c.args.scan.now.classes all (length (classes_of (plain c.args.source)))) (sym shows.names) (longer_all c.args.scan.now.classes (classes_of (plain c.args.source))))
    c.args.rows.now.numbers c.args.rows.now.classes c.requires.names

pub add-requires-clause-so_far : goal.add-requires-clause-so_far
add-requires-clause-so_far c =
    c.requires.edges
    ∙ ap (λ (scan : Scan). length scan.locks.before) (sym c.requires.ready)
    ∙ ap length (sym c.in_ok-outcome.ensures.first.edges)
