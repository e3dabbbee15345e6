-- Each step keeps the rule.
use Rattle.std.proofs.Common.{◌≡◌, ◌≢◌, ℕ, zero, suc, List, [], ◌∷◌, ◌++◌, length, set, true, false, true≢false, refl, sym, ap, ◌∙◌, subst, ⊎_elim, append_assoc, append-nil, length-set}
use mathlib.Core.Option.{some, some-ne-none, some-injective}
use mathlib.Core.List.{IsPrefix}
use lib.ListN.{get_elem?}
use Rattle.atomic_table.proofs.Lists.{at_set, at_snoc, set_again}
use Rattle.atomic_table.specs.Table.{Me, keeps, opening, Allows, Splits, Joins}
use Rattle.ld_history.specs.declared.rule.Entry.{Entry}
use Rattle.ld_history.specs.declared.rule.View.{View}
use Rattle.ld_history.specs.Rule.{IsKept, Fits, keeper, reader, longer, beside}

off : false ≡ true → ⊥
off e = true≢false (sym e)

pub prefix_nil : (xs : List Entry) → IsPrefix [] xs
prefix_nil xs = (xs, refl)

pub prefix_more : (xs ys zs : List Entry) → IsPrefix xs ys → IsPrefix xs (ys ++ zs)
prefix_more xs ys zs p = (p.0 ++ zs, sym (append_assoc xs p.0 zs) ∙ ap (λ w. w ++ zs) p.1)

-- the views after one of them has changed, and the history with it
fits_set : (seat : ℕ) (log : List Entry) (views : List View) (by : ℕ) (w : View) → ((j : ℕ) (u : View) → j ≢ by → get_elem? views j ≡ some u → Fits seat log j u) → Fits seat log by w
    → (j : ℕ) (u : View) → get_elem? (set views by w) j ≡ some u → Fits seat log j u
fits_set seat log views by w others mine j u e =
    ⊎_elim
    (λ (x : (j ≡ by) × (w ≡ u)). subst (λ (y : ℕ × View). Fits seat log y.0 y.1) (λ i. (sym x.0 i, x.1 i)) mine)
    (λ (x : (j ≢ by) × (get_elem? views j ≡ some u)). others j u x.0 x.1)
    (at_set views by j w u e)

-- a view that keeps nothing
reads : (seat : ℕ) (log : List Entry) (by : ℕ) (seen : List Entry) → IsPrefix seen log → Fits seat log by (reader seen)
reads seat log by seen p = ((λ k. absurd (off k)), p)

pub begins : (words : List ℕ) → length words ≡ 1 → IsKept (opening words [] (keeper []))
begins words one = record { word = one; seat = 0; log = []; fits = first }
  where
    first : (by : ℕ) (v : View) → get_elem? (keeper [] ∷ []) by ≡ some v → Fits 0 [] by v
    first zero v e = subst (Fits 0 [] 0) (some-injective _ _ e) ((λ _. (refl, refl)), prefix_nil [])
    first (suc by) v e = absurd (some-ne-none v (sym e))

pub appends : (slots id : ℕ) (me : Me (Unit {0}) View) (word : ℕ) (n : Entry) → me.0.keeps ≡ true
    → Allows IsKept slots id me 0 (λ _. word) (λ _ after. after ≡ (longer me.0 n, me.1))
appends slots id me word n keeping s h _ at _ =
    let v : View = me.0 in
    let own = h.fits id v at in
    let mine = own.0 keeping in
    let w : View = longer v n in
    let log : List Entry = h.log ++ n ∷ [] in (
      w,
      keeps,
      tt,
      record {
        word = length-set s.words 0 word ∙ h.word;
        seat = h.seat;
        log = log;
        fits = fits_set h.seat log s.views id w
            (λ j u apart e. ((λ k. absurd (apart (((h.fits j u e).0 k).0 ∙ sym mine.0))), prefix_more u.seen h.log (n ∷ []) (h.fits j u e).1))
            ((λ _. (mine.0, ap (λ l. l ++ n ∷ []) mine.1)), prefix_more v.seen h.log (n ∷ []) own.1);
      },
      refl,
    )

pub checks : (slots id : ℕ) (me : Me (Unit {0}) View) → me.0.keeps ≡ true
    → Allows IsKept slots id me 0 (λ n. n) (λ _ after. (after ≡ me) × IsPrefix me.0.seen me.0.all)
checks slots id me keeping s h _ at _ =
    let v : View = me.0 in
    let own = h.fits id v at in
    let mine = own.0 keeping in (
      v,
      keeps,
      tt,
      record {
        word = length-set s.words 0 _ ∙ h.word;
        seat = h.seat;
        log = h.log;
        fits = fits_set h.seat h.log s.views id v (λ j u _ e. h.fits j u e) own;
      },
      (refl, subst (λ l. IsPrefix v.seen l) (sym mine.1) own.1),
    )

-- a seat gives a new one what it may have seen
forks : (id : ℕ) (v : View) (seen : List Entry) → ((seat : ℕ) (log : List Entry) → Fits seat log id v → IsPrefix seen log) → Splits IsKept id v v (reader seen)
forks id v seen may s h at = record {
  word = h.word;
  seat = h.seat;
  log = h.log;
  fits = λ j u e. ⊎_elim
      (λ was. h.fits j u (subst (λ l. get_elem? l j ≡ some u) (set_again s.views id v at) was))
      (λ (same : reader seen ≡ u). subst (Fits h.seat h.log j) same (reads h.seat h.log j seen (may h.seat h.log (h.fits id v at))))
      (at_snoc (set s.views id v) (reader seen) u j e);
}

pub shows : (id : ℕ) (v : View) → v.keeps ≡ true → Splits IsKept id v v (reader v.all)
shows id v keeping = forks id v v.all (λ seat log f. subst (λ l. IsPrefix v.all l) (f.0 keeping).1 ([], append-nil v.all))

pub copies : (id : ℕ) (v : View) → Splits IsKept id v v (reader v.seen)
copies id v = forks id v v.seen (λ seat log f. f.1)

pub takes_in : (id : ℕ) (v : View) (other : ℕ) (w : View) → Joins IsKept id v other w (beside v w) (reader [])
takes_in id v other w s h at apart there =
    let both : View = beside v w in
    let theirs = ⊎_elim (λ (t : (other ≡ id) × (both ≡ w)). absurd (apart t.0)) (λ (t : (other ≢ id) × (get_elem? s.views other ≡ some w)). h.fits other w t.1) (at_set s.views id other both w there) in
    record {
      word = h.word;
      seat = h.seat;
      log = h.log;
      fits = fits_set h.seat h.log (set s.views id both) other (reader [])
          (λ j u _ e. fits_set h.seat h.log s.views id both (λ i y _ e'. h.fits i y e') ((h.fits id v at).0, theirs.1) j u e)
          (reads h.seat h.log other [] (prefix_nil h.log));
    }
