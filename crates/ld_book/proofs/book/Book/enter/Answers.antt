use Rattle.std.proofs.Common.{◌≢◌, ◌*◌, ◌≤◌, ◌++◌, ◌∙◌, All, AllPairs, Contains, arith, length, subst, sym}
use Rattle.ld_trace.specs.declared.source.TheConstants.{MOST_TRACES}
use Rattle.ld_trace.specs.Sources.{Fits}
use Rattle.ld_rules.specs.declared.outcome.TheConstants.{MOST_CLASSES}
use Rattle.ld_rules.specs.Union.{union_classes}
use Rattle.ld_facts.proofs.BatchLemmas.{few_sources}
use Rattle.ld_batch.specs.Inner.Names.{AreThere}
use Rattle.ld_batch.proofs.SinceLemmas.{fit-since, rise-since, there-behind}
use Rattle.ld_book.specs.Book.{is_any_listed}
use Rattle.ld_book.specs.Inner.Kept.{IsKept}
use Rattle.ld_book.proofs.BookLemmas.{apart_from_rise, kept-added}
use Rattle.ld_book.proofs.book.Book.enter.Goals as goal

pub add-requires-clause-there : goal.add-requires-clause-there
add-requires-clause-there c =
    let batch = c.args.batch.now in
    let sources = c.self.inside.listing.sources in
    subst (λ names. AreThere names (union_classes batch.behind)) (sym c.self.invariant.shows.classes)
    (there-behind sources batch.behind (subst (λ sources. All (Contains sources) batch.behind) (sym c.self.view_is) c.requires.behind))

pub add-requires-clause-few : goal.add-requires-clause-few
add-requires-clause-few c =
    let batch = c.args.batch.now in
    let told = c.traces-traces.ensures in
    let traces : length c.self.inside.listing.sources ≤ MOST_TRACES = c.room.ensures.few in
    let classes : length c.self.inside.union.classes ≤ length c.self.inside.listing.sources * MOST_CLASSES = c.self.invariant.few in
    let more : length batch.classes ≤ length (batch.behind ++ batch.sources) * MOST_CLASSES = told.few.all in
    let sources : length (batch.behind ++ batch.sources) ≤ MOST_TRACES = few_sources (batch.behind ++ batch.sources) told.exact.fit told.exact.rise in
    omega arith

pub note-requires : goal.note-requires
note-requires c = (c.self.inside.union, c.in_ok-add.ensures.told)

pub add_all-requires-clause-fresh : goal.add_all-requires-clause-fresh
add_all-requires-clause-fresh c = (λ i. is_any_listed ((c.room.ensures.sources ∙ c.self.view_is) i) (c.traces-traces.ensures.sources i)) ∙ c.requires.fresh

pub add_all-requires-clause-apart : goal.add_all-requires-clause-apart
add_all-requires-clause-apart c =
    let batch = c.args.batch.now in
    subst (AllPairs (λ a b. a.number ≢ b.number)) (sym c.traces-traces.ensures.sources)
    (apart_from_rise batch.sources (rise-since batch.behind batch.sources c.traces-traces.ensures.exact.rise))

pub add_all-requires-clause-fit : goal.add_all-requires-clause-fit
add_all-requires-clause-fit c =
    let batch = c.args.batch.now in
    subst (All Fits) (sym c.traces-traces.ensures.sources) (fit-since batch.behind batch.sources c.traces-traces.ensures.exact.fit)

pub invariant_of-self : goal.invariant_of-self
invariant_of-self c =
    let book = c.self.inside in
    subst (λ sources. IsKept (record { sources = sources; union = book.union; found = book.found })) (sym c.room.ensures.sources) c.self.invariant

pub invariant_of-self-in_err-add : goal.invariant_of-self-in_err-add
invariant_of-self-in_err-add c =
    let book = c.self.inside in
    rw (c.in_err-add.ensures.refused)
    (subst (λ sources. IsKept (record { sources = sources; union = book.union; found = book.found })) (sym c.room.ensures.sources) c.self.invariant)

pub invariant_of-self-2 : goal.invariant_of-self-2
invariant_of-self-2 c =
    let told = c.traces-traces.ensures in
    let batch = c.args.batch.now in
    kept-added _ _ batch c.self.invariant told.exact told.few (subst (λ sources. All (Contains sources) batch.behind) (sym c.self.view_is) c.requires.behind) c.in_ok-add.ensures.added
    (c.add_all.ensures ∙ (λ i. c.room.ensures.sources i ++ told.sources i))
    (c.note.ensures c.self.inside.union c.in_ok-add.ensures.told c.self.invariant.exact)

pub returns-clause-ok : goal.returns-clause-ok
returns-clause-ok c = c.add_all.ensures ∙ (λ i. (c.room.ensures.sources ∙ c.self.view_is) i ++ c.traces-traces.ensures.sources i)
