-- One more trace, with its row or without one.
use Rattle.std.proofs.Common.{◌≡◌, ◌+◌, ◌<◌, ◌++◌, ◌∷◌, [], ◌∙◌, List, ℕ, Option, Some, None, ap, filter_map, get_or, length, map, sym, take}
use Rattle.std.specs.List.{cons_option}
use Rattle.std.proofs.lemmas.List.{append-nil, map-append, take_more}
use Rattle.std.proofs.lemmas.List.Elements.{filter_map-append}
use Rattle.ld_trace.specs.Sources.{PlainSource, plain}
use Rattle.ld_rules.specs.declared.outcome.Listed.{Listed}
use Rattle.ld_occurrences.specs.Occurrences.{PlainOccurrence, plain_occurrence, traces_of}
use Rattle.ld_occurrences.specs.declared.rows.Occurrence.{Occurrence}

module _ (f : PlainSource → Option PlainOccurrence) (traces : List Listed) (i : ℕ) (d : Listed) (within : i < length traces) (old : List Occurrence)
    (are : map plain_occurrence old ≡ filter_map f (traces_of (take i traces))) where
  more : filter_map f (traces_of (take (i + 1) traces)) ≡ filter_map f (traces_of (take i traces)) ++ cons_option (f (plain (get_or traces i d).source)) []
  more =
      ap (λ (ts : List Listed). filter_map f (traces_of ts)) (take_more traces i d within)
      ∙ ap (filter_map f) (map-append (λ (t : Listed). plain t.source) (take i traces) (get_or traces i d ∷ []))
      ∙ filter_map-append f (traces_of (take i traces)) (plain (get_or traces i d).source ∷ [])

  pub rows-some : (new : List Occurrence) (row : Occurrence) → new ≡ old ++ row ∷ [] → Some (plain_occurrence row) ≡ f (plain (get_or traces i d).source)
      → map plain_occurrence new ≡ filter_map f (traces_of (take (i + 1) traces))
  rows-some new row is told =
      ap (map plain_occurrence) is ∙ map-append plain_occurrence old (row ∷ []) ∙ (λ t. are t ++ cons_option (told t) []) ∙ sym more

  pub rows-none : (new : List Occurrence) → new ≡ old → None ≡ f (plain (get_or traces i d).source)
      → map plain_occurrence new ≡ filter_map f (traces_of (take (i + 1) traces))
  rows-none new is told =
      ap (map plain_occurrence) is ∙ sym (append-nil (map plain_occurrence old)) ∙ (λ t. are t ++ cons_option (told t) []) ∙ sym more
