use Rattle.std.proofs.Common.{rules, ◌≡◌, ◌+◌, ◌-◌, ◌<◌, ◌≤◌, ◌∙◌, List, ap, arith, get_or, length, subst, sym}
use Rattle.ld_class.specs.Names.{PlainClass, no_class}
use Rattle.ld_class.specs.Usage.{no_bits}
use Rattle.ld_batch.specs.declared.rows.WitnessedUse.{WitnessedUse}
use Rattle.ld_batch.specs.Batch.{named_use}
use Rattle.ld_batch.specs.Inner.Names.{AreThere}
use Rattle.ld_rules.specs.Usage.{Use, bit_of, same_use}
use Rattle.ld_union.specs.Inner.Union.{AreUsed, earlier_of}
use Rattle.ld_union.specs.Usage.{bits_of}
use Rattle.ld_union.proofs.DeltaLemmas.{tells-same}
use Rattle.ld_union.proofs.SeenLemmas.{all_noted, none_noted, one_noted, same_use-true, uses_once}
use Rattle.ld_union.proofs.usage.add_usage.Goals as goal

abbrev no_use : WitnessedUse
no_use = record { class = 0; bit = no_bits; witness = record { number = 0; line = 0 } }

pub loop-seen-init : goal.loop-seen-init
loop-seen-init c = record {
  len = search rules;
  room = omega (arith, c.requires.room);
  told = rw c.requires.none (tells-same (bits_of c.args.rows.now));
  used = λ distinct first used. subst (AreUsed c.args.names.now c.args.rows.now)
      (λ i what. none_noted same_use same_use-true (named_use c.args.batch.now.classes) c.args.batch.now.usage (first what) what i) used;
}

pub place_in-class-requires-clause-within : goal.place_in-class-requires-clause-within
place_in-class-requires-clause-within c =
    let batch = c.args.batch.now in
    let i = c.loop-seen.seen-index in
    let here : i < length batch.usage = subst (λ (usage : List WitnessedUse). i < length usage) c.usage-seen-items.ensures.same c.loop-seen-test.true in
    subst (λ (classes : List PlainClass). (get_or c.usage-seen-items.result.now i no_use).class < length classes) (sym c.classes.ensures)
    (subst (λ (usage : List WitnessedUse). (get_or usage i no_use).class < length batch.classes) (sym c.usage-seen-items.ensures.same) (c.usage-seen-items.ensures.exact.used_within i no_use here).0)

pub place_in-class-requires-clause-there : goal.place_in-class-requires-clause-there
place_in-class-requires-clause-there c = subst (AreThere c.args.names.now) (sym c.classes.ensures) c.requires.there

pub note_use-requires-clause-class : goal.note_use-requires-clause-class
note_use-requires-clause-class c = omega (arith, c.place_in-class.ensures.0, c.requires.count, c.loop-seen.invariant.len)

pub loop-seen-preserved : goal.loop-seen-preserved
loop-seen-preserved c =
    let batch = c.args.batch.now in
    let names = c.args.names.now in
    let exact = c.usage-seen-items.ensures.exact in
    let i = c.loop-seen.seen-index in
    let here : i < length batch.usage = subst (λ (usage : List WitnessedUse). i < length usage) c.usage-seen-items.ensures.same c.loop-seen-test.true in
    let told : WitnessedUse = get_or c.usage-seen-items.result.now i no_use in
    let same_told : told ≡ get_or batch.usage i no_use = ap (λ (usage : List WitnessedUse). get_or usage i no_use) c.usage-seen-items.ensures.same in
    let class = c.place_in-class.result in
    record {
      len = c.note_use.ensures.len ∙ c.loop-seen.invariant.len;
      room = c.note_use.ensures.room (length batch.usage - (i + 1)) (omega (arith, c.loop-seen.invariant.room, here));
      told = c.note_use.ensures.told (bits_of c.args.rows.now) c.loop-seen.invariant.told;
      used = λ distinct first used.
          let seen : Use = record { class = get_or names class no_class; bit = bit_of told.bit } in
          let same : seen ≡ (named_use batch.classes (get_or batch.usage i no_use)).what = λ j. record {
            class = (c.place_in-class.ensures.1 ∙ ap (λ (classes : List PlainClass). get_or classes told.class no_class) c.classes.ensures ∙ ap (λ (used : WitnessedUse). get_or batch.classes used.class no_class) same_told) j;
            bit = bit_of (same_told j).bit;
          } in
          subst (AreUsed names c.note_use.new.rows)
          (λ j what. one_noted same_use same_use-true (named_use batch.classes) batch.usage (uses_once batch exact) i no_use
          here (first what) what seen told.witness (ap (λ (used : WitnessedUse). used.witness) same_told) same j)
          (c.note_use.ensures.used names distinct _ (c.loop-seen.invariant.used distinct first used));
    }

pub returns-clause-used : goal.returns-clause-used
returns-clause-used c distinct first used =
    let batch = c.args.batch.now in
    let past : length batch.usage ≤ c.loop-seen.seen-index = subst (λ (usage : List WitnessedUse). length usage ≤ c.loop-seen.seen-index) c.usage-seen-items.ensures.same c.loop-seen-test.false in
    subst (AreUsed c.args.names.now c.loop-seen.rows)
    (λ j what. (all_noted same_use same_use-true (named_use batch.classes) batch.usage (first what) c.loop-seen.seen-index what past
    ∙ ap (earlier_of (first what)) (c.usage-seen-items.ensures.exact.usage what)) j)
    (c.loop-seen.invariant.used distinct first used)
