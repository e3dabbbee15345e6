-- The numbers of the traces that a book lists.
use Rattle.std.proofs.Common.{◌≡◌, ◌≢◌, ◌<◌, ◌∙◌, [], ℕ, List, length, map, AllPairs, arith, nat_eq, sym, ap, subst}
use Rattle.std.proofs.lemmas.Bool.Decides.{Decides-eqb}
use Rattle.std.proofs.lemmas.List.{get_or-map, length-map}
use Rattle.std.proofs.lemmas.Map.Made.{AllPairs-from_IsDistinct}
use Rattle.std.proofs.lemmas.Simd.{map-map}
use Rattle.std.specs.List.{IsDistinct}
use Rattle.ld_trace.specs.Sources.{PlainSource, plain}
use Rattle.ld_rules.specs.declared.outcome.Listed.{Listed}
use Rattle.ld_batch.specs.Batch.{sources_of}

abbrev pub no_source : PlainSource
no_source = record { number = 0; label = []; first_line = 0; bytes = [] }

-- each trace has its source
pub source_within : (traces : List Listed) (i : ℕ) → i < length traces → i < length (sources_of traces)
source_within traces i here = subst (λ n. i < n) (sym (length-map traces (λ t. plain t.source))) here

-- what has numbers that are apart, is apart by its number
pub apart_by : {A : Type 0} (number : A → ℕ) (xs : List A) → AllPairs (λ m n. m ≢ n) (map number xs) → AllPairs (λ a b. number a ≢ number b) xs
apart_by number xs apart i j d lower within same =
    apart i j (number d) lower (subst (λ n. j < n) (sym (length-map xs number)) within)
    (get_or-map number xs i d (number d) (omega (arith, lower, within)) ∙ same ∙ sym (get_or-map number xs j d (number d) within))

-- distinct keys are the numbers of sources that are apart
pub apart_from_keys : (listed : List Listed) (keys : List ℕ) (sources : List PlainSource) → sources_of listed ≡ sources → keys ≡ map (λ l. l.source.number) listed
    → IsDistinct nat_eq keys → AllPairs (λ a b. a.number ≢ b.number) sources
apart_from_keys listed keys sources shown numbers distinct =
    apart_by (λ source. source.number) sources
    (subst (AllPairs (λ m n. m ≢ n)) (numbers ∙ sym (map-map (λ source. source.number) (λ l. plain l.source) listed) ∙ ap (map (λ source. source.number)) shown)
    (AllPairs-from_IsDistinct Decides-eqb keys distinct))
