use Rattle.std.proofs.Common.{◌≡◌, ◌∙◌, ◌∷◌, ◌++◌, [], Bool, Some, ℕ, List, cond, count_by, length, map, min, nat_eq, sym, ap, arith, length-append}
use Rattle.std.proofs.lemmas.List.{nil_from_length}
use Rattle.std.proofs.lemmas.List.Elements.{All-head, All-pop, All-rest, All-same, All-weaker}
use Rattle.ld_tickets.proofs.Places.{times-append, times_first, times_last, count_first, count_last, counted}
use Rattle.ld_tickets.proofs.Steps.{joins, settles}
use Rattle.ld_tickets.specs.Draw.{IsSeatOf, SeenSeat, once_below, times_in}
use Rattle.ld_tickets.proofs.tickets.Tickets.close.Goals as goal

abbrev drawn_of : SeenSeat → List ℕ
drawn_of seat = seat.drawn

abbrev is_ended : SeenSeat → Bool
is_ended seat = seat.ended

abbrev one_if : Bool → ℕ
one_if b = cond {A = ℕ} b 1 0

abbrev times : ℕ → List ℕ → ℕ
times x drawn = count_by (nat_eq x) drawn

pub loop-other-init : goal.loop-other-init
loop-other-init c =
    let last = c.in-Some.last in
    let seats : List SeenSeat = c.args.seats.items in
    let others : List SeenSeat = c.pop.new.self.items in
    let rest : c.into_iter-other-iterator.result.rest.items ≡ others = c.into_iter-other-iterator.ensures.into_iter_gives.0 in
    let split : seats ≡ others ++ last ∷ [] = c.in-Some.ensures.items in
    let each = All-pop (IsSeatOf c.args.self) seats others (Some last) split c.requires.seats in
    let table = ap (λ t. t.table) c.self.view_is in
    let is = c.last.invariant in
    let view : List ℕ = c.last.inside.seat.me.0.drawn in
    let drawn : view ≡ last.drawn = ap (λ s. s.drawn) c.last.view_is in
    let ended : c.last.inside.seat.me.0.ended ≡ one_if last.ended = is.2 ∙ ap (λ s. one_if s.ended) c.last.view_is in
    record {
      all = (ap (λ s. s.table) c.last.view_is ∙ (each.1.0 ∙ sym table), is.0);
      some = omega (arith, is.1);
      rest = All-same (λ seat. seat.table ≡ c.self.inside.table.shared.table_id) _ others rest
          (All-weaker (IsSeatOf c.args.self) (λ seat. seat.table ≡ c.self.inside.table.shared.table_id) (λ s i. i.0 ∙ sym table) others each.0);
      seats = omega (arith, is.1, ap length rest, ap length split, length-append others (last ∷ []));
      numbers = λ x. omega (
        arith,
        ap (times x) drawn,
        ap (λ l. times_in x (map drawn_of l)) rest,
        ap (λ l. times_in x (map drawn_of l)) split,
        times_last drawn_of x others last,
      );
      ended = omega (arith, ended, ap (count_by is_ended) rest, ap (count_by is_ended) split, count_last is_ended others last);
    }

pub join_seat-requires : goal.join_seat-requires
join_seat-requires c =
    let other = c.in-Some-other.other in
    let i = c.loop-other.invariant in
    let P : SeenSeat → Type 0 = λ seat. seat.table ≡ c.self.inside.table.shared.table_id in
    let rest : List SeenSeat = c.next.new.self.rest.items in
    let table : P other = All-head P other rest (All-same P (other ∷ rest) c.loop-other.other-iterator.rest.items (sym c.in-Some-other.ensures.steps.0) i.rest) in (
      i.all.0,
      ap (λ s. s.table) c.other.view_is ∙ table,
      c.other.invariant.0,
      omega (arith, c.self.invariant.0),
      joins _ _ _ _ _ i.some,
    )

pub loop-other-preserved : goal.loop-other-preserved
loop-other-preserved c =
    let other = c.in-Some-other.other in
    let i = c.loop-other.invariant in
    let left : List SeenSeat = c.loop-other.other-iterator.rest.items in
    let rest : List SeenSeat = c.next.new.self.rest.items in
    let step : left ≡ other ∷ rest = c.in-Some-other.ensures.steps.0 in
    let new = c.join_seat.ensures in
    let me = new.2 in
    let is = c.other.invariant in
    let ended : c.other.inside.seat.me.0.ended ≡ one_if other.ended = is.2 ∙ ap (λ s. one_if s.ended) c.other.view_is in
    record {
      all = (new.0 ∙ i.all.0, ap (λ m. m.1) me ∙ i.all.1);
      some = omega (arith, ap (λ m. m.0.seats) me, i.some);
      rest = All-rest (λ seat. seat.table ≡ c.self.inside.table.shared.table_id) other rest left step i.rest;
      seats = omega (arith, ap (λ m. m.0.seats) me, is.1, ap length step, i.seats);
      numbers = λ x. omega (
        arith,
        ap (λ m. times x m.0.drawn) me,
        times-append x c.loop-other.all.me.0.drawn c.other.inside.seat.me.0.drawn,
        ap (λ s. times x s.drawn) c.other.view_is,
        ap (λ l. times_in x (map drawn_of l)) step,
        times_first drawn_of x other rest,
        i.numbers x,
      );
      ended = omega (arith, ap (λ m. m.0.ended) me, ended, ap (count_by is_ended) step, count_first is_ended other rest, i.ended);
    }

pub returns : goal.returns
returns c =
    let i = c.loop-other.invariant in
    let all = c.loop-other.all in
    let state = c.word-state.result in
    let left = c.loop-other.other-iterator.rest in
    let key = c.self.invariant.2 in
    let none_left : left.items ≡ [] = nil_from_length left.items (omega (arith, left.ok.0, c.in-None.ensures.steps.0)) in
    let whole : all.me.0.seats ≡ c.self.inside.table.shared.key.seats =
    omega (arith, i.seats, ap length none_left, c.requires.count, ap (λ t. t.seats) c.self.view_is, ap (λ k. k.seats) key) in
    let told = settles _ all.id all.me.0 _ _ state c.close_with-closed.ensures.values.2 whole c.word-state.ensures in
    record {
      numbers = λ x.
          let all_here : times_in x (map drawn_of c.args.seats.items) ≡ times x all.me.0.drawn =
          omega (arith, i.numbers x, ap (λ l. times_in x (map drawn_of l)) none_left) in
          all_here ∙ (told.0 x ∙ (ap (λ k. once_below x (min state k.n)) key ∙ sym (ap (once_below x) c.min.ensures)));
      most = omega (arith, c.min.ensures, ap (λ t. t.n) c.self.view_is);
      ended = λ some_ended.
          let over = told.1 (omega (arith, counted is_ended c.args.seats.items some_ended, i.ended, ap (count_by is_ended) none_left)) in
          omega (arith, over, c.min.ensures, ap (λ k. k.n) key, ap (λ t. t.n) c.self.view_is);
    }
