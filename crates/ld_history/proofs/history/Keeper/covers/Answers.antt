use Rattle.std.proofs.Common.{sym, ap, ◌∙◌, arith}
use Rattle.std.proofs.lemmas.Option.{same_Some}
use Rattle.ld_history.proofs.Moves.{copies, takes_in, checks}
use Rattle.ld_history.proofs.history.Keeper.covers.Goals as goal

pub split_seat-copy-requires : goal.split_seat-copy-requires
split_seat-copy-requires g c =
    let i = c.self.invariant in
    let f = c.front.invariant in (
      same_Some _ _ (sym f.0 ∙ i.2),
      omega (arith, i.0),
      copies _ _,
    )

pub join_seat-requires : goal.join_seat-requires
join_seat-requires g c =
    let i = c.self.invariant in
    let f = c.front.invariant in
    let s = c.split_seat-copy.ensures in (
      i.1,
      s.3 ∙ same_Some _ _ (sym f.0 ∙ i.2),
      ap (λ m. m.1) s.4,
      omega (arith, i.0),
      takes_in _ _ _ _,
    )

pub load-requires : goal.load-requires
load-requires g c =
    let i = c.self.invariant in
    let j = c.join_seat.ensures in (
      j.0 ∙ i.1,
      omega (arith, i.0),
      checks _ _ _ (ap (λ m. m.0.keeps) j.2 ∙ i.4),
    )
