-- One more row is written, with its place.
use Rattle.std.proofs.Common.{◌≡◌, ◌+◌, ◌<◌, ◌++◌, ◌∷◌, [], ◌∙◌, All, List, ℕ, ap, append_assoc, flat_map, get_or, length, map, sym, take}
use Rattle.std.proofs.lemmas.Grind.{flat_map-append}
use Rattle.std.proofs.lemmas.List.{append-nil, map-append, take_more}
use Rattle.std.proofs.lemmas.List.Elements.{All-nil, All-push}
use Rattle.ld_trace.specs.Sources.{PlainSource}
use Rattle.ld_places.specs.Places.{PlainFile, PlainPlace}
use Rattle.ld_occurrences.specs.List.{AreWritten, IsWrittenAt, PlacedRow, row_line}
use Rattle.ld_occurrences.specs.declared.rows.Occurrence.{Occurrence}

module _ (files : List PlainFile) (in_order : List PlainSource) (before : List ℕ) where
  pub none-written : (rows : List Occurrence) → rows ≡ [] → (text : List ℕ) → text ≡ before → AreWritten files in_order rows before text
  none-written rows none text is = record {
    placed = [];
    same = sym none;
    places = All-nil (λ (p : PlacedRow). IsWrittenAt files in_order p.row.first p.place);
    lines = is ∙ sym (append-nil before);
  }

  module _ (rows : List Occurrence) (i : ℕ) (d : Occurrence) (within : i < length rows) (old : List ℕ) (are : AreWritten files in_order (take i rows) before old)
      (place : PlainPlace) (at : IsWrittenAt files in_order (get_or rows i d).first place) where
    abbrev pub one : PlacedRow
    one = record { row = get_or rows i d; place = place }

    pub more-written : (new : List ℕ) → new ≡ old ++ row_line one → AreWritten files in_order (take (i + 1) rows) before new
    more-written new is = record {
      placed = are.placed ++ one ∷ [];
      same = map-append (λ (p : PlacedRow). p.row) are.placed (one ∷ []) ∙ ap (λ rs. rs ++ get_or rows i d ∷ []) are.same ∙ sym (take_more rows i d within);
      places = All-push (λ (p : PlacedRow). IsWrittenAt files in_order p.row.first p.place) are.placed one are.places at;
      lines =
          is ∙ ap (λ t. t ++ row_line one) are.lines ∙ append_assoc before (flat_map row_line are.placed) (row_line one)
          ∙ ap (λ t. before ++ t) (sym (flat_map-append row_line are.placed (one ∷ []) ∙ ap (λ t. flat_map row_line are.placed ++ t) (append-nil (row_line one))));
    }
