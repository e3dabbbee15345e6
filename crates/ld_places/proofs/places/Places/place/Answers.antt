use Rattle.std.proofs.Common.{◌≡◌, ◌<◌, ◌+◌, ◌-◌, ◌∙◌, length, nat_lt, true, false, sym, ap, subst, arith}
use Rattle.std.proofs.lemmas.List.{get_or-map}
use Rattle.std.specs.List.Sorted.{IsPartitionPoint}
use Rattle.ld_places.specs.declared.places.Part.{Part}
use Rattle.ld_places.specs.Places.{PlainFile, file_of, no_file}
use Rattle.ld_places.proofs.PlaceLemmas.{line-behind, line-nowhere, line-past, line-there, parts-partitioned}
use Rattle.ld_places.proofs.places.Places.place.Goals as goal

pub reached-reached-requires : goal.reached-reached-requires
reached-reached-requires c = rw c.deref.ensures.value (parts-partitioned c.self.inside.parts.items c.self.inside.lines c.self.invariant c.args.line)

pub returns-then-reached-eq0 : goal.returns-then-reached-eq0
returns-then-reached-eq0 c = rw (← c.self.view_is)
    (let parts = c.self.inside.parts.items in
    let parted = subst (λ all. IsPartitionPoint (λ part. nat_lt part.before c.args.line ≡ true) (λ part. nat_lt part.before c.args.line ≡ false) all c.reached-reached.result) c.deref.ensures.value c.reached-reached.ensures.point in
    line-nowhere parts c.self.inside.lines c.self.invariant c.args.line c.reached-reached.result parted c.if-reached-eq0.true)

pub overflow_sub-own : goal.overflow_sub-own
overflow_sub-own c =
    let parts = c.self.inside.parts.items in
    let parted = subst (λ all. IsPartitionPoint (λ part. nat_lt part.before c.args.line ≡ true) (λ part. nat_lt part.before c.args.line ≡ false) all c.reached-reached.result) c.deref.ensures.value c.reached-reached.ensures.point in
    let part = c.index-part.result.now in
    let low = line-behind parts c.self.inside.lines c.self.invariant c.args.line c.reached-reached.result parted (c.reached-reached.result - 1) part (omega (arith, c.if-reached-eq0.false)) in
    let here = ap (λ (part : Part). part.before) c.index-part.ensures in
    omega (arith, low, here)

pub returns-then-own-part : goal.returns-then-own-part
returns-then-own-part c = rw (← c.self.view_is)
    (let parts = c.self.inside.parts.items in
    let parted = subst (λ all. IsPartitionPoint (λ part. nat_lt part.before c.args.line ≡ true) (λ part. nat_lt part.before c.args.line ≡ false) all c.reached-reached.result) c.deref.ensures.value c.reached-reached.ensures.point in
    let part = c.index-part.result.now in
    let next : c.reached-reached.result - 1 + 1 ≡ c.reached-reached.result = omega (arith, c.if-reached-eq0.false) in
    let within : c.reached-reached.result - 1 < length parts = omega (arith, c.if-reached-eq0.false, c.reached-reached.ensures.bound, ap length c.deref.ensures.value) in
    let low = line-behind parts c.self.inside.lines c.self.invariant c.args.line c.reached-reached.result parted (c.reached-reached.result - 1) part next in
    let here = ap (λ (part : Part). part.before) c.index-part.ensures in
    let lines = ap (λ (part : Part). part.lines) c.index-part.ensures in
    let before = c.self.invariant.before (c.reached-reached.result - 1) part within in
    line-past parts c.self.inside.lines c.self.invariant c.args.line c.reached-reached.result parted (c.reached-reached.result - 1) part next within
    (omega (arith, low, here, lines, before, c.if-own-part.true)))

pub returns : goal.returns
returns c = rw (← c.self.view_is)
    (let parts = c.self.inside.parts.items in
    let parted = subst (λ all. IsPartitionPoint (λ part. nat_lt part.before c.args.line ≡ true) (λ part. nat_lt part.before c.args.line ≡ false) all c.reached-reached.result) c.deref.ensures.value c.reached-reached.ensures.point in
    let part = c.index-part.result.now in
    let next : c.reached-reached.result - 1 + 1 ≡ c.reached-reached.result = omega (arith, c.if-reached-eq0.false) in
    let within : c.reached-reached.result - 1 < length parts = omega (arith, c.if-reached-eq0.false, c.reached-reached.ensures.bound, ap length c.deref.ensures.value) in
    let low = line-behind parts c.self.inside.lines c.self.invariant c.args.line c.reached-reached.result parted (c.reached-reached.result - 1) part next in
    let here = ap (λ (part : Part). part.before) c.index-part.ensures in
    let lines = ap (λ (part : Part). part.lines) c.index-part.ensures in (
      c.reached-reached.result - 1,
      (
        line-there parts c.self.inside.lines c.self.invariant c.args.line c.reached-reached.result parted (c.reached-reached.result - 1) part (c.args.line - part.before) next within
            (omega (arith, here, low)) (omega (arith, lines, c.if-own-part.false)),
        ap (λ (file : PlainFile). file.name) (get_or-map file_of parts (c.reached-reached.result - 1) part no_file within) ∙ sym (ap (λ (part : Part). part.file.now) c.index-part.ensures),
      ),
    ))
