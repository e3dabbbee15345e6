-- The rows of walks by numbers.
use Rattle.std.proofs.Common.{◌≡◌, ◌<◌, ◌∙◌, true, ℕ, List, Option, None, Some, is_some, ap, length, refl, sym, unwrap_or}
use Rattle.std.proofs.lemmas.Bool.{true≢false}
use Rattle.ld_class.specs.Usage.{marks_of}
use Rattle.ld_trace.specs.declared.event.State.{State}
use Rattle.ld_trace.specs.declared.event.State.TheVariants.{Hard, Soft}
use Rattle.ld_trace.specs.Sources.{PlainSource}
use Rattle.ld_graph.specs.Edges.{ComesBefore, IsEdge}
use Rattle.ld_graph.specs.Walks.{IsShownWalk}
use Rattle.ld_rules.specs.declared.outcome.Witness.{Witness}
use Rattle.ld_rules.specs.Union.{use_witness}
use Rattle.ld_rules.specs.Usage.{Bit}
use Rattle.ld_rules.specs.Usage.Bit.{In, On}
use Rattle.ld_union.specs.declared.usage.UsageRow.{UsageRow}
use Rattle.ld_union.specs.Inner.Bits.{HasBitAt}
use Rattle.ld_union.specs.Inner.ByName.{AreByName, class_name}
use Rattle.ld_union.specs.Inner.Rows.{IsEndRowOf, IsNoted}
use Rattle.ld_union.specs.Inner.Seen.{first_in}
use Rattle.ld_union.specs.Inner.Union.{PlainUnion, Shows, edges_of, of_class}
use Rattle.ld_union.specs.Inner.Walks.{first_at, marks_at, named_at, nowhere, usage_at, walk_row}
use Rattle.ld_union.specs.Usage.{bits_of, row_of}
use Rattle.ld_union.proofs.BitLemmas.{bit_at}
use Rattle.ld_union.proofs.ForbiddenLemmas.{forbidden-row}
use Rattle.ld_union.proofs.ShownLemmas.{shown_named}
use Rattle.ld_union.proofs.UsageLemmas.{row_at}

-- a row of usage has the first witnesses that it was made of
pub first_in-row_of : (first : Bit → Option Witness) (bit : Bit) → first_in (row_of first) bit ≡ first bit
first_in-row_of first (In Hard) = refl
first_in-row_of first (On Hard) = refl
first_in-row_of first (In Soft) = refl
first_in-row_of first (On Soft) = refl

-- what is there is what a default stands for
there_by_default : (o : Option Witness) (d : Witness) → is_some o ≡ true → o ≡ Some (unwrap_or o d)
there_by_default None d is = absurd (true≢false (sym is))
there_by_default (Some x) d is = refl

module _ (union : PlainUnion) (sources : List PlainSource) (shows : Shows sources union) where
  -- what a row says of a class with a bit
  pub noted_at : (c : ℕ) (bit : Bit) → c < length union.classes → HasBitAt (bits_of union.usage) c bit
      → IsNoted sources (class_name union.classes c) bit (named_at union c) (marks_at union c) (first_at union c bit)
  noted_at c bit within has =
      let first = of_class (use_witness sources) (class_name union.classes c) in
      let usage : usage_at union c ≡ row_of first = row_at union.classes union.usage (use_witness sources) shows.used c (row_of (λ b. None)) within in
      let seen : first_in (usage_at union c) bit ≡ first bit = ap (λ (row : UsageRow). first_in row bit) usage ∙ first_in-row_of first bit in
      let there : is_some (first bit) ≡ true = sym (bit_at union.classes union.usage (use_witness sources) shows.used c bit within) ∙ has in
      record {
        same = refl;
        shown = ap (λ (row : UsageRow). marks_of row.bits) usage;
        first = there_by_default (first bit) nowhere there ∙ ap (λ (o : Option Witness). Some (unwrap_or o nowhere)) (sym seen);
      }

  -- the row of a shown walk from a class that handlers acquire to one that is held where they can interrupt
  pub row_of_walk : (numbers places : List ℕ) → AreByName union.classes numbers places → (state : State) (a b : ℕ) (walk : List ℕ)
      → a < length union.classes → b < length union.classes → HasBitAt (bits_of union.usage) a (In state) → HasBitAt (bits_of union.usage) b (On state)
      → IsShownWalk (IsEdge (edges_of union.dependencies)) (ComesBefore places) a b walk
      → IsEndRowOf sources state (class_name union.classes a) (class_name union.classes b) (walk_row union state (record { from = a; to = b; via = walk }))
  row_of_walk numbers places order state a b walk at_a at_b acquired held shown =
      forbidden-row sources (class_name union.classes a) (class_name union.classes b) (walk_row union state (record { from = a; to = b; via = walk }))
      (noted_at a (In state) at_a acquired) (noted_at b (On state) at_b held)
      (shown_named union.classes union.dependencies shows.numbered sources shows.witnesses numbers places order a b walk at_a at_b shown)
