use Rattle.std.proofs.Common.{◌≡◌, ◌<◌, ◌≤◌, ◌+◌, ◌∙◌, ◌∷◌, ◌++◌, [], Vec, true, ap, get_or, length, subst, sym}
use Rattle.std.proofs.lemmas.Bool.{true≢false}
use Rattle.ld_class.specs.Usage.{has_bit, no_bits}
use Rattle.ld_union.specs.Inner.ByName.{class_at}
use Rattle.ld_union.specs.Usage.{bits_of}
use Rattle.ld_union.proofs.ByNameLemmas.{names-rise}
use Rattle.ld_union.proofs.AcquiredLemmas.{AreOfKind, AreOfKind-all, AreOfKind-one_more, AreOfKind-other}
use Rattle.ld_union.proofs.findings.forbidden.with_bit.Goals as goal
use Rattle.ld_union.proofs.findings.forbidden.with_bit.Goals.{then-has+in_ok-push, else-has}

pub loop-class-preserved : goal.loop-class-preserved
loop-class-preserved c =
    let union = c.args.indexed.union.now in
    let numbers = c.args.indexed.order.now.numbers.items in
    let i = c.loop-class.class-index in
    let class : get_or c.deref-class-items.result.now i 0 ≡ class_at numbers i = ap (λ ns. get_or ns i 0) c.deref-class-items.ensures.value in
    let within : i < length numbers = subst (λ ns. i < length ns) c.deref-class-items.ensures.value c.loop-class-test.true in
    let same : c.has.result ≡ has_bit (get_or (bits_of union.usage) (class_at numbers i) no_bits) c.args.bit =
    c.has.ensures ∙ (λ k. has_bit (get_or (bits_of (c.usage.ensures.same k)) (class k) no_bits) c.args.bit) in
    elim c.if-has.branch [
      | then-has+in_ok-push w ↦
          let value : c.if-has.classes.items ≡ c.loop-class.classes.items ++ class_at numbers i ∷ [] =
          ap (λ (v : Vec _ _). v.items) w.classes-is ∙ w.in_ok-push.ensures.items ∙ ap (λ k. c.loop-class.classes.items ++ k ∷ []) class in
          subst (AreOfKind union.classes numbers (λ k. has_bit (get_or (bits_of union.usage) k no_bits) c.args.bit ≡ true) (i + 1)) (sym value)
          (AreOfKind-one_more union.classes numbers (λ k. has_bit (get_or (bits_of union.usage) k no_bits) c.args.bit ≡ true) i c.loop-class.classes.items c.loop-class.invariant
          (names-rise union.classes numbers c.args.indexed.order.now.places.items c.args.indexed.named) within (sym same ∙ w.if-has.true))
      | else-has w ↦
          subst (AreOfKind union.classes numbers (λ k. has_bit (get_or (bits_of union.usage) k no_bits) c.args.bit ≡ true) (i + 1)) (sym (ap (λ (v : Vec _ _). v.items) w.classes-is))
          (AreOfKind-other union.classes numbers (λ k. has_bit (get_or (bits_of union.usage) k no_bits) c.args.bit ≡ true) i c.loop-class.classes.items c.loop-class.invariant
          (λ has. true≢false (sym (same ∙ has) ∙ w.if-has.false)))
    ]

pub returns : goal.returns
returns c =
    let union = c.args.indexed.union.now in
    let numbers = c.args.indexed.order.now.numbers.items in
    let i = c.loop-class.class-index in
    let past : length numbers ≤ i = subst (λ ns. length ns ≤ i) c.deref-class-items.ensures.value c.loop-class-test.false in
    let upto : i ≤ length numbers = subst (λ ns. i ≤ length ns) c.deref-class-items.ensures.value c.loop-class.auto.class-index-end in
    record {
      each = AreOfKind-all union.classes numbers (λ k. has_bit (get_or (bits_of union.usage) k no_bits) c.args.bit ≡ true) i c.loop-class.classes.items c.loop-class.invariant
          c.args.indexed.order.now.places.items c.args.indexed.named past upto;
      rising = c.loop-class.invariant.rising;
    }
