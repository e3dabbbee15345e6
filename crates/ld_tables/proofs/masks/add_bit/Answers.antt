use Rattle.std.proofs.Common.{◌≡◌, ◌<◌, ap, get_or, length, sym, ◌∙◌, arith}
use Rattle.std.proofs.lemmas.Option.{MatchOption-at_some}
use Rattle.std.specs.List.{list_any}
use Rattle.ld_tables.specs.declared.masks.Mask.{Mask}
use Rattle.ld_tables.specs.Inner.Edges.{any_bit}
use Rattle.ld_tables.proofs.MaskLemmas.{bits-push, bits-set, words-set}
use Rattle.ld_tables.proofs.masks.add_bit.Goals as goal

pub returns-in-Some-clause-words : goal.returns-in-Some-clause-words
returns-in-Some-clause-words c =
    let old = c.index_mut.result.now in
    let within : c.in-Some.at < length c.args.masks.now.items = MatchOption-at_some _ (λ at. at < length c.args.masks.now.items) c.in-Some.at c.in-Some.is c.requires.within in
    let word = MatchOption-at_some _ (λ at. (d : Mask) → (get_or c.args.masks.now.items at d).word ≡ c.args.word) c.in-Some.at c.in-Some.is c.requires.word in
    words-set c.args.masks.now.items c.in-Some.at c.args.word c.args.place old within (sym c.index_mut.ensures.value)
    (ap (λ (m : Mask). m.word) c.index_mut.ensures.value ∙ word old) c.requires.place

pub returns-in-Some-clause-bits : goal.returns-in-Some-clause-bits
returns-in-Some-clause-bits c =
    let old = c.index_mut.result.now in
    let within : c.in-Some.at < length c.args.masks.now.items = MatchOption-at_some _ (λ at. at < length c.args.masks.now.items) c.in-Some.at c.in-Some.is c.requires.within in
    let word = MatchOption-at_some _ (λ at. (d : Mask) → (get_or c.args.masks.now.items at d).word ≡ c.args.word) c.in-Some.at c.in-Some.is c.requires.word in
    bits-set c.args.masks.now.items c.in-Some.at c.args.word c.args.place old within (sym c.index_mut.ensures.value)
    (ap (λ (m : Mask). m.word) c.index_mut.ensures.value ∙ word old) c.requires.place

pub returns-clause-bits : goal.returns-clause-bits
returns-clause-bits c test = ap (any_bit test) c.in_ok-push.ensures.items ∙ bits-push c.args.masks.now.items c.args.word c.args.place c.requires.place test
