use Rattle.std.proofs.Common.{◌≡◌, ◌<◌, ◌++◌, ◌∷◌, [], ◌∙◌, All, Err, List, None, Ok, OnOk, Result, false, ℕ, IfSome, ap, arith, get_or, length, map, subst, sym, refl}
use Rattle.std.proofs.lemmas.Bool.{true≢false}
use Rattle.std.proofs.lemmas.List.{get_or-map, get_or_push, length-map, length_push}
use Rattle.std.proofs.lemmas.Option.{IfSome_then}
use Rattle.std.specs.List.{last_or}
use Rattle.std.specs.Result.{is_err}
use Rattle.ld_trace.specs.declared.source.Source.{Source}
use Rattle.ld_trace.specs.Sources.{AreNumbered, PlainSource, plain}
use Rattle.ld_work.proofs.workers.run_one.Goals as goal

-- the source at a place has its number
number_at : (sources : List Source) (k : ℕ) (d : Source) → AreNumbered (map plain sources) → k < length sources → (get_or sources k d).number ≡ k
number_at sources k d numbered within =
    ap (λ (s : PlainSource). s.number) (sym (get_or-map plain sources k d none within))
    ∙ numbered k none (subst (λ n. k < n) (sym (length-map sources plain)) within)
  where
    none : PlainSource
    none = record { number = 0; label = []; first_line = 0; bytes = [] }

-- what is below all numbers is below the last one
last_below : (drawn : List ℕ) (number k : ℕ) → All (λ n. n < k) (drawn ++ number ∷ []) → number < k
last_below drawn number k all = subst (λ n. n < k) (get_or_push drawn number 0 (length drawn) refl) (all (length drawn) 0 (omega (arith, length_push drawn number)))

-- what a clause says of an answer that is no error
if_not_err : {T E P : Type 0} (r : Result T E) → OnOk r P → is_err r ≡ false → P
if_not_err (Ok x) told fine = told
if_not_err (Err e) told fine = absurd (true≢false fine)

pub read-requires-clause-above : goal.read-requires-clause-above
read-requires-clause-above g c =
    let number = c.in-Some.number in
    let draw = c.in-Some.ensures.number in
    let within : number < length c.args.sources.now = subst (λ n. number < n) c.requires.numbers draw.0 in
    subst (λ n. IfSome (last_or None (c.loop-number.told.behind ++ c.loop-number.told.sources)) (λ last. last.number < n)) (sym (number_at c.args.sources.now number _ c.requires.numbered within))
    (c.loop-number.invariant.last number draw.1)

pub loop-number-smaller : goal.loop-number-smaller
loop-number-smaller g c =
    let number = c.in-Some.number in
    let draw = c.in-Some.ensures.number in
    let rises = c.loop-number.invariant.rises number draw.1 in
    let longer = ap (λ s. length s.drawn) c.in-Some.ensures.seat ∙ length_push c.loop-number.seat.drawn number in
    omega (arith, rises, longer, draw.0, c.requires.numbers)

pub loop-number-preserved : goal.loop-number-preserved
loop-number-preserved g c =
    let number = c.in-Some.number in
    let draw = c.in-Some.ensures.number in
    let drawn = ap (λ s. s.drawn) c.in-Some.ensures.seat in
    let within : number < length c.args.sources.now = subst (λ n. number < n) c.requires.numbers draw.0 in
    let rises = c.loop-number.invariant.rises number draw.1 in
    let longer = ap length drawn ∙ length_push c.loop-number.seat.drawn number in
    record {
      seat = (ap (λ s. s.table) c.in-Some.ensures.seat ∙ c.loop-number.invariant.seat.0, ap (λ s. s.n) c.in-Some.ensures.seat ∙ c.loop-number.invariant.seat.1);
      rises = λ k all.
          let above = last_below c.loop-number.seat.drawn number k (subst (All (λ n. n < k)) drawn all) in
          omega (arith, rises, longer, above);
      last = λ k all.
          let above = last_below c.loop-number.seat.drawn number k (subst (All (λ n. n < k)) drawn all) in
          let told = if_not_err c.read.result c.read.ensures (sym c.is_err-refused.ensures.value ∙ c.if-refused.false) in
          IfSome_then (last_or None (c.read.new.told.behind ++ c.read.new.told.sources)) told (λ last is.
          subst (λ n. n < k) (sym (is ∙ number_at c.args.sources.now number _ c.requires.numbered within)) above);
    }
