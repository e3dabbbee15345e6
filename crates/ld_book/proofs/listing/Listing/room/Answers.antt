use Rattle.std.proofs.Common.{rules, ◌≡◌, ◌≤◌, ◌∙◌, All, List, ap, false, get_or, length, map, nat_eq, refl, subst, sym, take}
use Rattle.std.proofs.lemmas.List.{length-map, take_all}
use Rattle.ld_trace.specs.declared.source.TheConstants.{MOST_TRACES}
use Rattle.std.specs.List.{IsDistinct}
use Rattle.ld_trace.specs.Sources.{Fits, plain}
use Rattle.ld_rules.specs.declared.outcome.Listed.{Listed}
use Rattle.ld_batch.specs.Batch.{AreOutcomes, sources_of}
use Rattle.ld_book.specs.Book.{is_listed}
use Rattle.ld_book.specs.Totals.{event_count, refused_count}
use Rattle.ld_book.specs.declared.listing.Listing.TheInside.{Inside}
use Rattle.ld_book.specs.Inner.Listing.{IsListing, PlainListing, listing_of}
use Rattle.ld_book.proofs.BoundLemmas.{few_listed}
use Rattle.ld_book.proofs.ListingLemmas.{marks-more}
use Rattle.ld_book.proofs.listing.Listing.room.Goals as goal

few : (l : Inside) (list : PlainListing) → IsListing l → listing_of l ≡ list → length list.sources ≤ MOST_TRACES
few l list is view =
    subst (λ seen. length seen.sources ≤ MOST_TRACES) view
    (subst (λ n. n ≤ MOST_TRACES) (sym (length-map l.traces.items (λ t. plain t.source))) (few_listed l.traces.items (map (λ t. t.source.number) l.traces.items) refl is.fit is.distinct))

pub returns-in_err-reserve-clause-few : goal.returns-in_err-reserve-clause-few
returns-in_err-reserve-clause-few c = few c.self.inside c.args.self.now c.self.invariant c.self.view_is

pub returns-in_err-resize-clause-few : goal.returns-in_err-resize-clause-few
returns-in_err-resize-clause-few c = few c.self.inside c.args.self.now c.self.invariant c.self.view_is

pub returns-clause-few : goal.returns-clause-few
returns-clause-few c = few c.self.inside c.args.self.now c.self.invariant c.self.view_is

pub invariant_of-self-2 : goal.invariant_of-self-2
invariant_of-self-2 c =
    let is = c.self.invariant in
    let marks = c.self.inside.marks.items in
    let kept = sym c.in_ok-reserve.ensures.items in
    record {
      outcomes = subst AreOutcomes kept is.outcomes;
      fit = subst (All (λ (t : Listed). Fits (plain t.source))) kept is.fit;
      distinct = subst (λ (all : List Listed). IsDistinct nat_eq (map (λ (t : Listed). t.source.number) all)) kept is.distinct;
      marks = λ number.
          ap (λ all. get_or all number false) c.in_ok-resize.ensures.items
          ∙ marks-more (take MOST_TRACES marks) _ number
          ∙ ap (λ all. get_or all number false) (take_all MOST_TRACES marks is.most_marks)
          ∙ is.marks number
          ∙ ap (λ all. is_listed (sources_of all) number) kept;
      events = is.events ∙ ap (λ all. event_count (sources_of all)) kept;
      refused = is.refused ∙ ap (λ all. refused_count (sources_of all)) kept;
      room_traces = search rules;
      most_marks = search rules;
      room_marks = search rules;
    }
