-- One entry more is merged.
use Rattle.std.proofs.Common.{ℕ, ◌≡◌, ◌∙◌, ◌<◌, ◌++◌, ◌⊎◌, inl, inr, cond, List, [], ◌∷◌, Option, Some, None, ap, get_or, length, refl, set, subst, sym}
use Rattle.std.proofs.lemmas.Bool.{cases_eq, eq-eqb, ne_eqb}
use Rattle.std.proofs.lemmas.List.{get_or-set_other, get_or-set_same, length-set}
use Rattle.ld_pages.specs.declared.events.Events.{Events}
use Rattle.ld_merge.specs.declared.entry.Entry.{Entry}
use Rattle.ld_merge.specs.declared.head.Head.{Head}
use Rattle.ld_merge.specs.Heads.{AreHeads, IsEnd, IsHead, IsLeastOf, IsMergeFrom, IsOf, IsTimed, Left}
use Rattle.ld_merge.specs.Merge.{GrowsByMerge}
use Rattle.ld_merge.specs.Order.{AreBelow, IsAfter, items_of}
use Rattle.ld_merge.proofs.HeadLemmas.{after_in_front, fronts, next_behind, nothing_left, time_in_front, timed_from}

items_same : (k : ℕ) (e : Entry) (es : List Entry) → e.processor ≡ k → items_of k (e ∷ es) ≡ e.item ∷ items_of k es
items_same k e es same = ap (λ t. cond t (e.item ∷ items_of k es) (items_of k es)) (eq-eqb e.processor k same)

items_other : (k : ℕ) (e : Entry) (es : List Entry) → (e.processor ≡ k → ⊥) → items_of k (e ∷ es) ≡ items_of k es
items_other k e es other =
    ap (λ t. cond t (e.item ∷ items_of k es) (items_of k es)) (ne_eqb e.processor k other)

-- What holds of the head that was put in, and of the others, holds of all.
put_in : (P : ℕ → Head → Type 0) (heads : List Head) (p : ℕ) (h : Head) → p < length heads → P p h
    → ((k : ℕ) (d : Head) → k < length heads → (k ≡ p → ⊥) → P k (get_or heads k d))
    → (k : ℕ) (d : Head) → k < length heads → P k (get_or (set heads p h) k d)
put_in P heads p h within here others k d lt = by (cases_eq k p)
  where
    by : (k ≡ p) ⊎ (k ≡ p → ⊥) → P k (get_or (set heads p h) k d)
    by (inl same) = subst (λ j. P j (get_or (set heads p h) j d)) (sym same) (subst (λ x. P p x) (sym (get_or-set_same heads p h d within)) here)
    by (inr other) = subst (λ x. P k x) (sym (get_or-set_other heads p k h d other)) (others k d lt other)

-- With an entry that was in front before what is merged from there.
pub merge_more : (heads : List Head) (last : Option Entry) (e : Entry) (h : Head) (es : List Entry)
    → e.processor < length heads → ((d : Head) → (get_or heads e.processor d).item ≡ Some e.item)
    → ((d : Head) → IsOf (get_or heads e.processor d).events h) → IsAfter last e
    → IsMergeFrom (set heads e.processor h) (Some e) es → IsMergeFrom heads last (e ∷ es)
merge_more heads last e h es within at of after m = record {
  each = λ k d lt. by k d lt (cases_eq k e.processor);
  known = (within, subst (λ n. AreBelow n es) (length-set heads e.processor h) m.known);
  ordered = (after, m.ordered);
}
  where
    lt_set : (k : ℕ) → k < length heads → k < length (set heads e.processor h)
    lt_set k lt = subst (λ n. k < n) (sym (length-set heads e.processor h)) lt

    own : (d : Head) → Left (get_or heads e.processor d) (items_of e.processor (e ∷ es)) None
    own d = fronts (get_or heads e.processor d).item (get_or heads e.processor d).events e.item
        (items_of e.processor (e ∷ es)) (items_of e.processor es) None
        (at d) (items_same e.processor e es refl)
        (of d (items_of e.processor es) None
        (subst (λ x. Left x (items_of e.processor es) None) (get_or-set_same heads e.processor h d within)
        (m.each e.processor d (lt_set e.processor within))))

    by : (k : ℕ) (d : Head) → k < length heads → (k ≡ e.processor) ⊎ (k ≡ e.processor → ⊥) → Left (get_or heads k d) (items_of k (e ∷ es)) None
    by k d lt (inl same) = subst (λ j. Left (get_or heads j d) (items_of j (e ∷ es)) None) (sym same) (own d)
    by k d lt (inr other) =
        subst (λ is. Left (get_or heads k d) is None) (sym (items_other k e es (λ is. other (sym is))))
        (subst (λ x. Left x (items_of k es) None) (get_or-set_other heads e.processor k h d other) (m.each k d (lt_set k lt)))

-- The heads are behind the entry that was taken.
pub heads_more : (heads : List Head) (last : Option Entry) (e : Entry) (h : Head) (before : ℕ)
    → e.processor < length heads → ((d : Head) → (get_or heads e.processor d).item ≡ Some e.item)
    → ((k : ℕ) (d : Head) → k < length heads → IsLeastOf (Some e) k (get_or heads k d).item)
    → AreHeads last heads → ((d : Head) → (get_or heads e.processor d).events.cursor.time ≡ before)
    → IsTimed before h.item h.events.cursor.time → IsEnd h.item h.events
    → AreHeads (Some e) (set heads e.processor h)
heads_more heads last e h before within at least are since timed at_end = λ k d lt.
    put_in (λ j x. IsHead (Some e) j x) heads e.processor h within
    (record {
      timed = timed_from before h.item h.events.cursor.time timed;
      behind = next_behind e h.item before h.events.cursor.time
          (time_in_front (get_or heads e.processor h).item e.item (get_or heads e.processor h).events.cursor.time (at h) (are e.processor h within).timed ∙ since h)
          timed;
      at_end = at_end;
    })
    (λ j x jlt other. record {
      timed = (are j x jlt).timed;
      behind = least j x jlt;
      at_end = (are j x jlt).at_end;
    })
    k d (subst (λ n. k < n) (length-set heads e.processor h) lt)

-- an entry in front is after the last one
pub after_last : (heads : List Head) (last : Option Entry) (e : Entry) (d : Head) → e.processor < length heads
    → (get_or heads e.processor d).item ≡ Some e.item → AreHeads last heads → IsAfter last e
after_last heads last e d within at are = after_in_front last e (get_or heads e.processor d).item at (are e.processor d within).behind

-- Where nothing is in front, nothing is left to merge.
pub merge_ends : (heads : List Head) (last : Option Entry) → AreHeads last heads
    → ((k : ℕ) (d : Head) → k < length heads → IsLeastOf None k (get_or heads k d).item) → IsMergeFrom heads last []
merge_ends heads last are least = record {
  each = λ k d lt. nothing_left k (get_or heads k d).item (get_or heads k d).events (least k d lt) (are k d lt).at_end;
  known = tt;
  ordered = tt;
}

-- What is merged from the first heads is the merge.
pub merge_begins : (sources : List Events) (heads : List Head) (old es : List Entry) → length heads ≡ length sources
    → ((k : ℕ) (d : Head) → k < length sources → (e : Events) → IsOf (get_or sources k e) (get_or heads k d))
    → IsMergeFrom heads None es → GrowsByMerge sources old (old ++ es)
merge_begins sources heads old es same of m = (
  es,
  refl,
  record {
    each = λ k e lt.
        let d : Head = record { events = e; item = None } in
        of k d lt e (items_of k es) None (m.each k d (subst (λ n. k < n) (sym same) lt));
    known = subst (λ n. AreBelow n es) same m.known;
    ordered = m.ordered;
  },
)
