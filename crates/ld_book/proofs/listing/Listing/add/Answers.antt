use Rattle.std.proofs.Common.{◌≡◌, ◌+◌, ◌<◌, ◌^◌, ◌++◌, ◌∷◌, [], ◌∙◌, All, ap, arith, false, length, map, nat_eq, refl, subst, sym, true}
use Rattle.std.proofs.lemmas.Cmp.{nat_eq_equiv}
use Rattle.std.proofs.lemmas.List.{length-set, map-append}
use Rattle.std.proofs.lemmas.List.Elements.{All-push}
use Rattle.std.proofs.lemmas.Map.Keys.{IsDistinct-push}
use Rattle.std.specs.List.{IsDistinct, list_any}
use Rattle.ld_trace.specs.Sources.{Fits, plain}
use Rattle.ld_rules.specs.declared.outcome.Listed.{Listed}
use Rattle.ld_facts.specs.Outcome.{outcome}
use Rattle.ld_batch.specs.Batch.{AreOutcomes, sources_of}
use Rattle.ld_book.specs.Book.{is_listed}
use Rattle.ld_book.specs.Totals.{event_count, events_read, refused_count}
use Rattle.ld_book.proofs.BoundLemmas.{events_fit}
use Rattle.ld_book.proofs.ListingLemmas.{events-push, listed_any, marks-push, refused-push, sources-push}
use Rattle.ld_book.proofs.listing.Listing.add.Goals as goal

pub overflow_add-self : goal.overflow_add-self
overflow_add-self c =
    let list = c.self.inside in
    let fits : list.events + c.events_of.result < 2 ^ 64 =
    events_fit list.traces.items (map (λ (l : Listed). l.source.number) list.traces.items) list.events c.events_of.result (plain c.args.trace.source) refl c.self.invariant.fit
    c.self.invariant.distinct c.self.invariant.events (c.events_of.ensures ∙ ap events_read c.requires.outcome) c.requires.fits in
    omega (arith, fits)

pub invariant_of-self : goal.invariant_of-self
invariant_of-self c =
    let list = c.self.inside in
    let is = c.self.invariant in
    let trace = c.args.trace in
    let keys = map (λ (l : Listed). l.source.number) list.traces.items in
    let number = trace.source.number in
    let absent : list_any (nat_eq number) keys ≡ false =
    listed_any list.traces.items keys number refl ∙ ap (λ l. is_listed l.sources number) c.self.view_is ∙ c.requires.fresh in
    let traces : c.push_reserved.new.self.items ≡ list.traces.items ++ trace ∷ [] = c.push_reserved.ensures.items in
    let numbered : map (λ (l : Listed). l.source.number) c.push_reserved.new.self.items ≡ keys ++ number ∷ [] =
    ap (map (λ (l : Listed). l.source.number)) traces ∙ map-append (λ (l : Listed). l.source.number) list.traces.items (trace ∷ []) in
    let room : 0 < list.spare = omega (arith, c.requires.room, ap (λ l. l.spare) c.self.view_is) in
    let marked : number < length list.marks.items = omega (arith, is.room_marks room, c.requires.fits.number) in
    let spare = ap (λ l. l.spare) c.self.view_is in
    record {
      outcomes = subst AreOutcomes (sym traces) (All-push (λ (l : Listed). l.outcome ≡ outcome (plain l.source)) list.traces.items trace is.outcomes c.requires.outcome);
      fit = subst (All (λ (l : Listed). Fits (plain l.source))) (sym traces) (All-push (λ (l : Listed). Fits (plain l.source)) list.traces.items trace is.fit c.requires.fits);
      distinct = subst (IsDistinct nat_eq) (sym numbered) (IsDistinct-push nat_eq_equiv keys number is.distinct absent);
      marks = λ n. marks-push list.marks.items list.traces.items trace is.marks marked n ∙ ap (λ all. is_listed (sources_of all) n) (sym traces);
      events =
          (λ i. is.events i + c.events_of.ensures i)
          ∙ sym (events-push list.traces.items trace c.requires.outcome)
          ∙ ap (λ all. event_count (sources_of all)) (sym traces);
      refused =
          (λ i. is.refused i + c.refused_of.ensures i)
          ∙ sym (refused-push list.traces.items trace c.requires.outcome)
          ∙ ap (λ all. refused_count (sources_of all)) (sym traces);
      room_traces = omega (arith, is.room_traces, c.requires.room, spare, c.push_reserved.ensures.len, c.push_reserved.ensures.capacity);
      most_marks = omega (arith, is.most_marks, length-set list.marks.items number true);
      room_marks = λ more. omega (arith, is.room_marks room, length-set list.marks.items number true);
    }

pub returns-clause-sources : goal.returns-clause-sources
returns-clause-sources c =
    ap sources_of c.push_reserved.ensures.items
    ∙ sources-push c.self.inside.traces.items c.args.trace
    ∙ ap (λ l. l.sources ++ plain c.args.trace.source ∷ []) c.self.view_is
