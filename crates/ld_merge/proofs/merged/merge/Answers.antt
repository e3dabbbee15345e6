-- One entry more is taken, or none is left.
use Rattle.std.proofs.Common.{◌∙◌, ◌++◌, [], ◌∷◌, Some, ap, append_assoc, subst, sym}
use Rattle.std.proofs.lemmas.List.{append-nil}
use Rattle.ld_merge.specs.Heads.{AreHeads, IsMergeFrom, IsOf}
use Rattle.ld_merge.specs.Merge.{GrowsByMerge}
use Rattle.ld_merge.proofs.MergeLemmas.{after_last, heads_more, merge_begins, merge_ends, merge_more}
use Rattle.ld_merge.proofs.merged.merge.Goals as goal

pub entries-init : goal.entries-init
entries-init g c = record {
  heads = c.in_ok-heads.ensures.heads;
  merged = λ es m. merge_begins c.args.sources.now c.in_ok-heads.heads.items (g.T.Taker.taken c.args.taker.now) es
      c.in_ok-heads.ensures.count c.in_ok-heads.ensures.each m;
}

pub returns-in-None : goal.returns-in-None
returns-in-None g c =
    let i = c.entries.invariant in
    subst (λ xs. GrowsByMerge c.args.sources.now (g.T.Taker.taken c.args.taker.now) xs)
    (append-nil (g.T.Taker.taken c.entries.taker))
    (i.merged [] (merge_ends c.entries.heads.items c.entries.last i.heads c.in-None.ensures.least))

pub entries-preserved : goal.entries-preserved
entries-preserved g c =
    let i = c.entries.invariant in
    let e = c.in-Some.entry in
    let h = c.in_ok-head-in-Some.head in
    let items = c.entries.heads.items in
    let found = c.in-Some.ensures.found in
    let taken = g.T.Taker.taken c.entries.taker in
    record {
      heads = subst (λ hs. AreHeads (Some e) hs) (sym c.put.ensures)
          (heads_more items c.entries.last e h c.events_at-events.result.cursor.time found.0 found.1 c.in-Some.ensures.least i.heads
          (λ d. ap (λ x. x.cursor.time) (sym (c.events_at-events.ensures d)))
          c.in_ok-head-in-Some.ensures.timed c.in_ok-head-in-Some.ensures.at_end);
      merged = λ es m.
          let after = after_last items c.entries.last e h found.0 (found.1 h) i.heads in
          let more = merge_more items c.entries.last e h es found.0 found.1
          (λ d. subst (λ x. IsOf x h) (c.events_at-events.ensures d) c.in_ok-head-in-Some.ensures.left) after
          (subst (λ hs. IsMergeFrom hs (Some e) es) c.put.ensures m) in
          subst (λ xs. GrowsByMerge c.args.sources.now (g.T.Taker.taken c.args.taker.now) xs)
          (sym (ap (λ xs. xs ++ es) c.in_ok-take-in-Some.ensures ∙ append_assoc taken (e ∷ []) es))
          (i.merged (e ∷ es) more);
    }

pub events_at-events-requires : goal.events_at-events-requires
events_at-events-requires g c = c.in-Some.ensures.found.0

pub put-requires : goal.put-requires
put-requires g c = c.in-Some.ensures.found.0
