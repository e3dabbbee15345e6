-- What a worker saw of a book is there.
use Rattle.std.proofs.Common.{◌≡◌, ◌+◌, ◌<◌, ◌≤◌, ◌⊎◌, inl, inr, ◌++◌, ◌∷◌, [], All, List, ℕ, Option, Some, None, IfSome, IsSome, Bool, true, false, Result, Ok, Err, OnErr, OnOk, append_assoc, take, get_or, length, map, option_map, refl, ap, sym, subst, ◌∙◌}
use Rattle.std.proofs.lemmas.Bool.{true≢false}
use Rattle.std.proofs.lemmas.Option.{same_Some}
use Rattle.std.proofs.lemmas.List.{append-nil, get_or-map, get_or_default, length-map, map-append, take_all, take_more}
use Rattle.std.proofs.lemmas.List.Elements.{All-append, All-push, All-contains, All-contains_itself, All-nil, All-weaker, Contains-append_left, Contains-append_right, Contains-get_or}
use Rattle.std.specs.List.{Contains, last_or}
use Rattle.std.specs.Result.{is_err}
use mathlib.Core.List.{IsPrefix}
use Rattle.ld_trace.specs.Sources.{PlainSource, plain}
use Rattle.ld_history.specs.declared.rule.Entry.{Entry}
use Rattle.ld_rules.specs.declared.outcome.Listed.{Listed}
use Rattle.ld_rules.proofs.PlaceLemmas.{last_or-push}
use Rattle.ld_batch.specs.Batch.{PlainShown, nothing_shown, sources_of}
use Rattle.ld_work.specs.Inner.Seen.{entries_of, entry_of}

-- what was seen of a list is in it
pub seen-there : (front all : List Entry) → IsPrefix front all → All (Contains all) front
seen-there front all begins k d within =
    subst (λ (ns : List Entry). Contains ns (get_or front k d)) begins.1 (Contains-append_left front begins.0 (get_or front k d) (Contains-get_or front k d within))

-- what was seen of what was seen
pub seen-through : (all front entries : List Entry) → All (Contains all) front → All (Contains front) entries → All (Contains all) entries
seen-through all front entries there = All-weaker (Contains front) (Contains all) (λ n saw. All-contains (Contains all) front n there saw) entries

-- what a history notes tells the source
abbrev source_of : Entry → PlainSource
source_of entry = record { number = entry.number; label = entry.label; first_line = entry.first_line; bytes = entry.bytes }

-- Sources that were noted of a book are listed there.
pub behind-listed : (book behind : List PlainSource) → All (Contains (entries_of book)) (entries_of behind) → All (Contains book) behind
behind-listed book behind seen k d within =
    let s : PlainSource = get_or behind k d in
    let found : Contains (entries_of book) (entry_of s) = subst (Contains (entries_of book)) (get_or-map entry_of behind k d (entry_of d) within) (seen k (entry_of d) (subst (λ n. k < n) (sym (length-map behind entry_of)) within)) in
    let j : ℕ = found.0 in
    let inside : j < length book = subst (λ n. j < n) (length-map book entry_of) found.1 in
    (j, inside, ap source_of (sym (get_or-map entry_of book j s (entry_of s) inside) ∙ found.2))

-- two lists are seen where all are
pub seen-both : (all : List Entry) (sources more : List PlainSource) → All (Contains all) (entries_of sources) → All (Contains all) (entries_of more) → All (Contains all) (entries_of (sources ++ more))
seen-both all sources more here there =
    subst (All (Contains all)) (sym (map-append entry_of sources more)) (All-append (Contains all) (entries_of sources) (entries_of more) here there)

-- What a front saw once it was shown the book, to which these sources came.
pub front-all : (old sources behind : List PlainSource) (now : List Entry) → All (Contains (entries_of old)) (entries_of behind) → now ≡ entries_of (old ++ sources)
    → All (Contains now) (entries_of (behind ++ sources))
front-all old sources behind now seen is =
    seen-both now behind sources
    (All-weaker (Contains (entries_of old)) (Contains now)
    (λ n saw. subst (λ ns. Contains ns n) (sym all) (Contains-append_left (entries_of old) (entries_of sources) n saw))
    (entries_of behind) seen)
    (All-weaker (Contains (entries_of sources)) (Contains now)
    (λ n saw. subst (λ ns. Contains ns n) (sym all) (Contains-append_right (entries_of old) (entries_of sources) n saw))
    (entries_of sources) (All-contains_itself (entries_of sources)))
  where
    all : now ≡ entries_of old ++ entries_of sources
    all = is ∙ map-append entry_of old sources

-- What a worker handed on is what its front saw; or it forgot all.
pub told-on : (may_list : PlainSource → Type 0) (front : List Entry) (old new : PlainShown) → All (Contains front) (entries_of (old.behind ++ old.sources))
    → (new ≡ nothing_shown) ⊎ ((new.behind ≡ old.behind ++ old.sources) × (new.sources ≡ []))
    → All may_list new.sources × All (Contains front) (entries_of new.behind)
told-on may_list front old new seen (inl none) =
    subst (λ (n : PlainShown). All may_list n.sources × All (Contains front) (entries_of n.behind)) (sym none) (All-nil may_list, All-nil (Contains front))
told-on may_list front old new seen (inr on) = (subst (All may_list) (sym on.1) (All-nil may_list), subst (λ these. All (Contains front) (entries_of these)) (sym on.0) seen)

-- A history that is kept has what came.
module _ {X : Type 0} where
  pub some-kept : (history : Option X) (keeper : Option (List Entry)) (book : List PlainSource) → IsSome history → keeper ≡ option_map (λ _. entries_of book) history → IsSome keeper
  some-kept None keeper book some is = absurd (true≢false (sym some))
  some-kept (Some h) keeper book some is = subst IsSome (sym is) refl

  pub noted : (history : Option X) (old new : Option (List Entry)) (book now these : List PlainSource) → old ≡ option_map (λ _. entries_of book) history
      → new ≡ option_map (λ all. all ++ entries_of these) old → now ≡ book ++ these → new ≡ option_map (λ _. entries_of now) history
  noted None old new book now these was is grew = is ∙ ap (option_map (λ all. all ++ entries_of these)) was
  noted (Some h) old new book now these was is grew =
      is ∙ ap (option_map (λ all. all ++ entries_of these)) was ∙ ap Some (sym (map-append entry_of book these) ∙ ap entries_of (sym grew))

  -- What a front saw of it is in the book.
  pub seen-kept : (history : Option X) (keeper : Option (List Entry)) (book : List PlainSource) (front : List Entry) → IsSome history → keeper ≡ option_map (λ _. entries_of book) history
      → IfSome keeper (λ all. All (Contains all) front) → All (Contains (entries_of book)) front
  seen-kept None keeper book front some is seen = absurd (true≢false (sym some))
  seen-kept (Some h) keeper book front some is seen = subst (λ k. IfSome k (λ all. All (Contains all) front)) is seen

  pub kept-some : (history : Option X) (keeper : Option (List Entry)) (book : List PlainSource) → IsSome history → keeper ≡ option_map (λ _. entries_of book) history → keeper ≡ Some (entries_of book)
  kept-some None keeper book some is = absurd (true≢false (sym some))
  kept-some (Some h) keeper book some is = is

-- The last of all that was read is the trace that was read last,
pub last-read : (behind sources : List PlainSource) (source : PlainSource) → last_or None (behind ++ (sources ++ source ∷ [])) ≡ Some source
last-read behind sources source = ap (last_or None) (sym (append_assoc behind sources (source ∷ []))) ∙ last_or-push None (behind ++ sources) source

-- and stays it where all is handed on, unless all is forgotten.
pub last-on : (number : ℕ) (old new : PlainShown) → IfSome (last_or None (old.behind ++ old.sources)) (λ last. last.number ≡ number)
    → (new ≡ nothing_shown) ⊎ ((new.behind ≡ old.behind ++ old.sources) × (new.sources ≡ [])) → IfSome (last_or None (new.behind ++ new.sources)) (λ last. last.number ≡ number)
last-on number old new is (inl none) = subst (λ (n : PlainShown). IfSome (last_or None (n.behind ++ n.sources)) (λ last. last.number ≡ number)) (sym none) tt
last-on number old new is (inr on) =
    subst (λ (all : List PlainSource). IfSome (last_or None all) (λ last. last.number ≡ number))
    (sym ((λ i. on.0 i ++ on.1 i) ∙ append-nil (old.behind ++ old.sources))) is

-- what is noted of some traces, one by one
module _ (traces : List Listed) where
  pub entries-more : (first now new : List Entry) (i : ℕ) (d : Listed) → i < length traces → now ≡ first ++ entries_of (sources_of (take i traces))
      → new ≡ now ++ entry_of (plain (get_or traces i d).source) ∷ [] → new ≡ first ++ entries_of (sources_of (take (i + 1) traces))
  entries-more first now new i d within so_far is =
      let trace : Listed = get_or traces i d in
      let before : List Entry = entries_of (sources_of (take i traces)) in
      is
      ∙ ap (λ all. all ++ entry_of (plain trace.source) ∷ []) so_far
      ∙ append_assoc first before (entry_of (plain trace.source) ∷ [])
      ∙ ap (λ all. first ++ all)
      (sym (map-append entry_of (sources_of (take i traces)) (plain trace.source ∷ []))
      ∙ ap entries_of (sym (map-append (λ (l : Listed). plain l.source) (take i traces) (trace ∷ [])))
      ∙ ap (λ all. entries_of (sources_of all)) (sym (take_more traces i d within)))

  pub entries-whole : (first now : List Entry) (i : ℕ) → length traces ≤ i → now ≡ first ++ entries_of (sources_of (take i traces)) → now ≡ first ++ entries_of (sources_of traces)
  entries-whole first now i all so_far = so_far ∙ ap (λ these. first ++ entries_of (sources_of these)) (take_all i traces all)

  -- and what is true of them
  pub among-more : (P : PlainSource → Type 0) (i : ℕ) (d : Listed) → i < length traces → All P (sources_of (take i traces)) → P (plain (get_or traces i d).source) → All P (sources_of (take (i + 1) traces))
  among-more P i d within before here =
      subst (All P) (sym (ap sources_of (take_more traces i d within) ∙ map-append (λ (l : Listed). plain l.source) (take i traces) (get_or traces i d ∷ [])))
      (All-push P (sources_of (take i traces)) (plain (get_or traces i d).source) before here)

  pub among-whole : (P : PlainSource → Type 0) (i : ℕ) → length traces ≤ i → All P (sources_of (take i traces)) → All P (sources_of traces)
  among-whole P i all so_far = subst (λ these. All P (sources_of these)) (take_all i traces all) so_far

-- what a clause says of an answer that is an error, or none
pub on-ok : {T E P : Type 0} (r : Result T E) → OnOk r P → is_err r ≡ false → P
on-ok (Ok x) told fine = told
on-ok (Err e) told fine = absurd (true≢false fine)

pub on-err : {T E P : Type 0} (r : Result T E) → OnErr r P → is_err r ≡ true → P
on-err (Ok x) told wrong = absurd (true≢false (sym wrong))
on-err (Err e) told wrong = told

-- so what holds on Ok holds of an error
pub none-ok : {T E : Type 0} (P : Type 0) (r : Result T E) → is_err r ≡ true → OnOk r P
none-ok P (Ok x) wrong = absurd (true≢false (sym wrong))
none-ok P (Err e) wrong = tt

pub some-ok : {T E P : Type 0} (r : Result T E) → P → OnOk r P
some-ok (Ok x) told = told
some-ok (Err e) told = tt

-- A book that refused some sources has the history that it had.
pub still-kept : {X T E : Type 0} (history : Option X) (keeper : Option (List Entry)) (book now : List PlainSource) (r : Result T E) → OnErr r (now ≡ book) → is_err r ≡ true
    → keeper ≡ option_map (λ _. entries_of book) history → keeper ≡ option_map (λ _. entries_of now) history
still-kept history keeper book now r same wrong is = is ∙ ap (λ these. option_map (λ _. entries_of these) history) (sym (on-err r same wrong))

-- What a front was shown is what its book lists.
pub front-is : {X : Type 0} (history : Option X) (keeper : Option (List Entry)) (front : List Entry) (book : List PlainSource) → IsSome history → keeper ≡ option_map (λ _. entries_of book) history
    → keeper ≡ Some front → front ≡ entries_of book
front-is history keeper front book some is shown = same_Some front (entries_of book) (sym shown ∙ kept-some history keeper book some is)
