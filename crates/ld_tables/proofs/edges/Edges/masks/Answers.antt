use Rattle.std.proofs.Common.{rules, ◌≡◌, ◌<◌, ◌/◌, List, ℕ, [], ap, get_or, length, map, take, refl, sym, subst, ◌∙◌, arith}
use Rattle.std.proofs.lemmas.List.{get_or_default, map_more}
use Rattle.std.specs.Prelude.{IfSome}
use Rattle.ld_tables.specs.declared.held.Held.{Held}
use Rattle.ld_tables.specs.declared.masks.Mask.{Mask}
use Rattle.ld_tables.specs.declared.masks.Word.{Word}
use Rattle.ld_tables.specs.Inner.Edges.{AreMasks, AreMore, word_at}
use Rattle.ld_tables.proofs.MaskLemmas.{AreMasks-none, AreMasks-push}
use Rattle.ld_tables.proofs.WordLemmas.{AreMore-further, AreMore-same}
use Rattle.ld_tables.proofs.edges.Edges.masks.Goals as goal
use Rattle.ld_tables.proofs.edges.Edges.masks.Goals.{in-Some, in-None+in_ok-number-in-None}

pub loop-held-init : goal.loop-held-init
loop-held-init c =
    let new : c.new-masks.result.items ≡ [] = search rules in
    let none : c.reserve.new.self.items ≡ [] = c.reserve.ensures.items ∙ new in
    record {
      tellings = refl;
      more = AreMore-same c.args.self.now.words;
      are = subst (AreMasks c.args.self.now.words c.args.class []) (sym none) (AreMasks-none c.args.self.now.words c.args.class);
      few = omega (arith, ap length none);
      some = λ low. absurd (omega (arith, low));
    }

pub add_bit-requires-clause-word : goal.add_bit-requires-clause-word
add_bit-requires-clause-word c =
    let masks = c.loop-held.masks.items in
    let IsOf = λ (at : ℕ). (d : Mask) → (get_or masks at d).word ≡ c.match-at.number in
    elim c.match-at.branch [
      | in-Some w ↦
          let at = w.in-Some.at in
          let within : at < length masks = subst (λ (ms : List Mask). at < length ms) c.deref.ensures.value w.in-Some.ensures.within in
          subst (λ o. IfSome o IsOf) (sym w.at-is)
          (λ d. ap (λ (m : Mask). m.word) (get_or_default masks at d w.index.result.now within ∙ sym w.index.ensures) ∙ sym w.number-is)
      | in-None+in_ok-number-in-None w ↦ subst (λ o. IfSome o IsOf) (sym (w.at-is ∙ w.in-None.is)) (search rules)
    ]

pub loop-held-preserved : goal.loop-held-preserved
loop-held-preserved c =
    let so_far = c.loop-held.invariant in
    let masks = c.loop-held.masks.items in
    let before = c.loop-held.self in
    let now = c.match-at.self in
    let from = (get_or c.args.stack.now c.loop-held.held-index _).class in
    let word : Word = record { block = from / 64; to = c.args.class } in
    let froms = map (λ (h : Held). h.class) (take c.loop-held.held-index c.args.stack.now) in
    let told : record {
      tellings : now.tellings ≡ before.tellings;
      more : AreMore before.words now.words;
      within : c.match-at.number < length now.words;
      is : word_at now.words c.match-at.number ≡ word;
    } = elim c.match-at.branch [
      | in-Some w ↦
          let at = w.in-Some.at in
          let old = w.index.result.now in
          let within : at < length masks = subst (λ (ms : List Mask). at < length ms) c.deref.ensures.value w.in-Some.ensures.within in
          let number : (get_or masks at old).word ≡ c.match-at.number = ap (λ (m : Mask). m.word) (sym w.index.ensures) ∙ sym w.number-is in
          let words : before.words ≡ now.words = sym (ap (λ e. e.words) w.self-is) in
          let there : word_at before.words (get_or masks at old).word ≡ word = subst (λ (ms : List Mask). word_at before.words (get_or ms at old).word ≡ word)
          c.deref.ensures.value (w.in-Some.ensures.word old) in
          record {
            tellings = ap (λ e. e.tellings) w.self-is;
            more = subst (AreMore before.words) words (AreMore-same before.words);
            within = subst (λ n. n < length now.words) number (subst (λ (ws : List Word). (get_or masks at old).word < length ws) words (so_far.are.within at old within));
            is = subst (λ n. word_at now.words n ≡ word) number (subst (λ (ws : List Word). word_at ws (get_or masks at old).word ≡ word) words there);
          }
      | in-None+in_ok-number-in-None w ↦
          let given = w.in_ok-number-in-None in
          let words : w.number.new.self.words ≡ now.words = sym (ap (λ e. e.words) w.self-is) in
          record {
            tellings = ap (λ e. e.tellings) w.self-is ∙ given.ensures.tellings;
            more = subst (AreMore before.words) words given.ensures.more;
            within = subst (λ n. n < length now.words) (sym w.number-is) (subst (λ (ws : List Word). given.number < length ws) words given.ensures.within);
            is = subst (λ n. word_at now.words n ≡ word) (sym w.number-is) (subst (λ (ws : List Word). word_at ws given.number ≡ word) words given.ensures.number);
          }
    ] in
    record {
      tellings = told.tellings ∙ so_far.tellings;
      more = AreMore-further c.args.self.now.words before.words now.words so_far.more told.more;
      are = subst (λ froms. AreMasks now.words c.args.class froms c.add_bit.new.masks.items)
          (sym (map_more (λ (h : Held). h.class) c.args.stack.now c.loop-held.held-index _ c.loop-held-test.true))
          (AreMasks-push before.words now.words c.args.class _ c.match-at.number froms masks c.add_bit.new.masks.items
          told.more so_far.are told.within told.is c.in_ok-add_bit.ensures.words c.in_ok-add_bit.ensures.bits);
      few = omega (arith, so_far.few, c.in_ok-add_bit.ensures.few);
      some = λ _. c.in_ok-add_bit.ensures.some;
    }
