-- The last trace of a list.
use Rattle.std.proofs.Common.{◌≡◌, ◌-◌, ◌<◌, ◌++◌, ◌∷◌, [], List, None, Some, get_or, length, ap, sym, ◌∙◌, arith}
use Rattle.std.proofs.lemmas.List.{get_or_push, length_push, map-append}
use Rattle.std.specs.List.{last_or}
use Rattle.ld_trace.specs.Sources.{plain}
use Rattle.ld_rules.specs.declared.outcome.Listed.{Listed}
use Rattle.ld_rules.proofs.PlaceLemmas.{by_pushes, last_or-push}
use Rattle.ld_batch.specs.Batch.{sources_of}

-- the last of their sources is the source of the last
pub last_source : (d : Listed) (listed : List Listed) → 0 < length listed → last_or None (sources_of listed) ≡ Some (plain (get_or listed (length listed - 1) d).source)
last_source d listed = by_pushes (λ xs. 0 < length xs → last_or None (sources_of xs) ≡ Some (plain (get_or xs (length xs - 1) d).source)) (λ some. absurd (omega arith)) step listed
  where
    step : (xs : List Listed) (x : Listed) → (0 < length xs → last_or None (sources_of xs) ≡ Some (plain (get_or xs (length xs - 1) d).source))
        → 0 < length (xs ++ x ∷ []) → last_or None (sources_of (xs ++ x ∷ [])) ≡ Some (plain (get_or (xs ++ x ∷ []) (length (xs ++ x ∷ []) - 1) d).source)
    step xs x before some =
        let here : get_or (xs ++ x ∷ []) (length (xs ++ x ∷ []) - 1) d ≡ x = get_or_push xs x d (length (xs ++ x ∷ []) - 1) (omega (arith, length_push xs x)) in
        ap (last_or None) (map-append (λ l. plain l.source) xs (x ∷ []))
        ∙ last_or-push None (sources_of xs) (plain x.source)
        ∙ sym (ap (λ (l : Listed). Some (plain l.source)) here)
