-- The rows of forbidden walks.
use Rattle.std.proofs.Common.{◌≡◌, ℕ, inr, List, arith, is_some, refl, sym, ap, subst, ◌∙◌}
use Rattle.ld_class.specs.Names.{PlainClass}
use Rattle.ld_trace.specs.declared.event.State.{State}
use Rattle.ld_trace.specs.Sources.{PlainSource}
use Rattle.ld_rules.specs.declared.outcome.Witness.{Witness}
use Rattle.ld_rules.specs.Union.{use_witness}
use Rattle.ld_rules.specs.Usage.{Bit}
use Rattle.ld_rules.specs.Usage.Bit.{In, On}
use Rattle.ld_union.specs.Findings.{IsBefore, IsShown, PlainForbiddenRow, shown_marks}
use Rattle.ld_union.specs.Inner.Rows.{AreEndRows, AreForbiddenRowsOf, IsNoted, IsEndRowOf}
use Rattle.ld_union.specs.Violations.{Depends, HasBit, IsForbidden}
use Rattle.ld_union.proofs.CycleLemmas.{HasWalk-shown}

module _ (sources : List PlainSource) where
  -- what is noted of a class is so of the name that is noted
  module _ (class : PlainClass) (bit : Bit) (name : PlainClass) (marks : List ℕ) (at : Witness) (is : IsNoted sources class bit name marks at) where
    noted_at : use_witness sources (record { class = name; bit = bit }) ≡ use_witness sources (record { class = class; bit = bit })
    noted_at = ap (λ n. use_witness sources (record { class = n; bit = bit })) is.same

    noted_bit : HasBit sources name bit
    noted_bit = ap is_some (noted_at ∙ is.first)

    noted_marks : marks ≡ shown_marks sources name
    noted_marks = is.shown ∙ ap (shown_marks sources) (sym is.same)

  -- a row of two classes that are noted, with a shown walk from one to the other
  pub forbidden-row : (x y : PlainClass) (row : PlainForbiddenRow) → IsNoted sources x (In row.state) row.from row.from_marks row.safe_at → IsNoted
      sources y (On row.state) row.to row.to_marks row.unsafe_at
      → IsShown sources x y row.via → IsEndRowOf sources row.state x y row
  forbidden-row x y row from to shown = (
    (
      record {
        forbidden = (
          noted_bit x (In row.state) row.from row.from_marks row.safe_at from,
          noted_bit y (On row.state) row.to row.to_marks row.unsafe_at
              to,
          HasWalk-shown (Depends sources) IsBefore row.from row.to row.via walk,
        );
        from_marks = noted_marks x (In row.state) row.from row.from_marks row.safe_at from;
        safe_at = noted_at x (In row.state) row.from row.from_marks row.safe_at from ∙ from.first;
        to_marks = noted_marks y (On row.state) row.to row.to_marks row.unsafe_at to;
        unsafe_at = noted_at y (On row.state) row.to row.to_marks row.unsafe_at to ∙ to.first;
        shown = walk;
      },
      refl,
    ),
    λ i. (from.same i, to.same i),
  )
    where
      walk : IsShown sources row.from row.to row.via
      walk = subst (λ n. IsShown sources n row.to row.via) (sym from.same) (subst (λ n. IsShown sources x n row.via) (sym to.same) shown)

-- the rows of a state's forbidden walks by their ends are the rows of these walks
pub rows-of_state : (sources : List PlainSource) (state : State) (rows : List PlainForbiddenRow) → AreEndRows sources state rows → AreForbiddenRowsOf sources (λ k. k.0 ≡ state) rows
rows-of_state sources state rows told = record {
  each = told.each;
  all = λ k owed.
      let there = told.all (k.1.0, k.1.1) (subst (λ s. IsForbidden sources s k.1.0 k.1.1) owed.1 owed.0) in
      let is_state : there.1.state ≡ state = ap (λ (r : PlainForbiddenRow). r.state) (sym there.3) ∙ (told.each there.0 there.1 there.2).1 in
      (there.0, there.1, there.2, there.3, λ i. ((is_state ∙ sym owed.1) i, ((there.4 i).0, (there.4 i).1)));
  ordered = λ i j d before within.
      inr ((told.each i d (omega (arith, before, within))).1 ∙ sym (told.each j d within).1, told.ordered i j d before within);
}
