-- Walks whose numbers lie in one list.
use Rattle.std.proofs.Common.{◌≡◌, ◌≤◌, ◌+◌, ◌∙◌, ◌++◌, ◌∷◌, [], ℕ, List, All, ap, arith, drop, length, map, refl, sym, take}
use Rattle.std.proofs.lemmas.List.{drop_at, map-append, take_all}
use Rattle.std.proofs.lemmas.List.Elements.{All-head, All-tail, All-weaker}
use Rattle.ld_graph.proofs.RunLemmas.{part-append}
use Rattle.ld_union.specs.declared.findings.forbidden_rows.Part.{Part}
use Rattle.ld_union.specs.Inner.Parts.{IsPartOf, part_of}

-- parts stay within more numbers
pub parts_within : (n m : ℕ) (parts : List Part) → n ≤ m → All (IsPartOf n) parts → All (IsPartOf m) parts
parts_within n m parts more = All-weaker (IsPartOf n) (IsPartOf m) (λ p within. omega (arith, more, within)) parts

module _ (numbers via : List ℕ) where
  -- and keep their walks
  parts_kept : (parts : List Part) → All (IsPartOf (length numbers)) parts → map (part_of (numbers ++ via)) parts ≡ map (part_of numbers) parts
  parts_kept [] within = refl
  parts_kept (p ∷ ps) within = λ i. (
      record {
        from = p.from;
        to = p.to;
        via = part-append numbers via p.start p.len (All-head (IsPartOf (length numbers)) p ps within) i;
      }
      ) ∷ parts_kept ps (All-tail (IsPartOf (length numbers)) p ps within) i

  -- one more walk, whose numbers stand behind the others
  pub parts-push : (parts : List Part) (part : Part) → All (IsPartOf (length numbers)) parts → part.start ≡ length numbers → part.len ≡ length via
      → map (part_of (numbers ++ via)) (parts ++ part ∷ []) ≡ map (part_of numbers) parts ++ (record { from = part.from; to = part.to; via = via }) ∷ []
  parts-push parts part within start len =
      map-append (part_of (numbers ++ via)) parts (part ∷ [])
      ∙ (λ i. parts_kept parts within i ++ (record { from = part.from; to = part.to; via = last i }) ∷ [])
    where
      last : take part.len (drop part.start (numbers ++ via)) ≡ via
      last = ap (take part.len) (drop_at numbers via part.start (sym start)) ∙ take_all part.len via (omega (arith, len))
