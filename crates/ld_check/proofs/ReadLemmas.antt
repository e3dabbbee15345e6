-- What was read of a stream, piece by piece.
use Rattle.std.proofs.Common.{◌≡◌, ◌+◌, ◌⊎◌, ◌∙◌, ◌++◌, [], List, ℕ, Bool, Option, true, ap, append_assoc, append-nil, arith, inl, inr, length, length-append, subst, sym, ⊎_elim}
use Rattle.std.proofs.KnownBytes.{Consumes-trans}
use Rattle.std.specs.Io.KnownBytes.{Consumes, IsAtEnd}
use Rattle.ld_io.specs.Inner.Reading.{Gains}
use Rattle.ld_io.specs.Transfer.{ReadsWhole}
use Rattle.ld_io.specs.declared.transfer.TheConstants.{MOST_READ}

-- one piece more
pub read-more : (pieces ahead piece later : List ℕ) (one two three : Option (List ℕ)) → Consumes one two (pieces ++ ahead) → Gains ahead (piece ++ later) (Consumes two three)
    → Consumes one three ((pieces ++ piece) ++ later)
read-more pieces ahead piece later one two three before more =
    subst (Consumes one three) (append_assoc pieces ahead more.0 ∙ ap (λ rest. pieces ++ rest) (sym more.1) ∙ sym (append_assoc pieces piece later))
    (Consumes-trans one two three (pieces ++ ahead) more.0 before more.2)

-- the last piece
pub read-whole : (pieces ahead piece later now : List ℕ) (one two three : Option (List ℕ)) (ended : Bool) (total : ℕ) → Consumes one two (pieces ++ ahead)
    → Gains ahead (piece ++ later) (Consumes two three) → now ≡ pieces ++ piece → total ≡ length pieces + length ahead
    → (later ≡ []) × ((total + length piece ≡ MOST_READ + length ahead) ⊎ ((ended ≡ true) × IsAtEnd three)) → ReadsWhole one three ended now
read-whole pieces ahead piece later now one two three ended total before more is counted last = record {
  consumed = subst (Consumes one three) ((λ i. (pieces ++ piece) ++ last.0 i) ∙ append-nil (pieces ++ piece) ∙ sym is) (read-more pieces ahead piece later one two three before more);
  whole = ⊎_elim (λ (long : total + length piece ≡ MOST_READ + length ahead). inl (omega (arith, long, counted, ap length is, length-append pieces piece)))
      (λ (end : (ended ≡ true) × IsAtEnd three). inr end) last.1;
}
