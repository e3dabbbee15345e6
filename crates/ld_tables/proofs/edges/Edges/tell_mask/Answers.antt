use Rattle.std.proofs.Common.{◌≡◌, ◌<◌, ◌-◌, ◌*◌, ◌+◌, ◌^◌, ◌∷◌, [], ◌++◌, List, ℕ, ap, fold, get_or, length, map, set, slice_index_or, subst, sym, ◌∙◌, arith}
use Rattle.std.proofs.lemmas.Bool.{eqb-true}
use Rattle.std.proofs.lemmas.List.{append-nil, get_or_default}
use Rattle.std.specs.Prelude.{bit_and, bit_or}
use Rattle.ld_class.specs.Blocks.{bits_on, classes_in}
use Rattle.ld_class.proofs.BlockLemmas.{bits_on-zero}
use Rattle.ld_tables.specs.declared.masks.NewEdges.{NewEdges}
use Rattle.ld_tables.specs.Inner.Edges.{AreTold, KeptEdges, edge_to, edges_of, no_word, with_edge_fact, word_at}
use Rattle.ld_tables.proofs.TellingLemmas.{edges-mask, tell-mask, told-mask}
use Rattle.ld_tables.proofs.edges.Edges.tell_mask.Goals as goal

-- a mask with one class list more of none
one_mask : (block bits to line : ℕ) → map (edge_to to line) (classes_in block bits) ≡ map (edge_to to line) (classes_in block bits ++ [])
one_mask block bits to line = ap (map (edge_to to line)) (sym (append-nil (classes_in block bits)))

pub returns-then-bits-eq0-clause-told : goal.returns-then-bits-eq0-clause-told
returns-then-bits-eq0-clause-told c =
    let keys = c.self.inside.words.keys in
    let told = c.self.inside.told.items in
    let tellings = c.self.inside.tellings.items in
    let word = c.args.mask.word in
    let bits = c.args.mask.bits in
    let inside : word < length keys = omega (arith, c.requires, ap (λ (k : KeptEdges). length k.words) c.self.view_is) in
    let is : c.index-told.result.now ≡ get_or told word 0 = c.index-told.ensures ∙ get_or_default told word c.index-told.result.now 0 (omega (arith, inside, c.self.invariant.many)) in
    let low : c.index-told.result.now < 2 ^ 64 = omega arith in
    let small : get_or told word 0 < 2 ^ 64 = subst (λ n. n < 2 ^ 64) is low in
    let none : bit_and bits (18446744073709551615 - get_or told word 0) ≡ 0 = ap (λ n. bit_and bits (18446744073709551615 - n)) (sym is) ∙ c.if-bits-eq0.true in
    sym (ap (λ (k : KeptEdges). edges_of k.tellings) c.self.view_is)
    ∙ sym (append-nil (edges_of tellings))
    ∙ ap (λ ps. edges_of tellings ++ map (edge_to (word_at keys word).to c.args.line) (map (λ place. 64 * (word_at keys word).block + place) ps)) (sym (ap bits_on none ∙ bits_on-zero))
    ∙ tell-mask keys told tellings c.self.invariant word inside bits c.args.line small
    ∙ (λ i. fold with_edge_fact (edges_of tellings) (one_mask (word_at keys word).block bits (word_at keys word).to c.args.line i))
    ∙ ap (λ (k : KeptEdges). fold with_edge_fact (edges_of k.tellings) (map (edge_to (word_at k.words word).to c.args.line) (classes_in (word_at k.words word).block bits ++ []))) c.self.view_is

pub invariant_of-self-2 : goal.invariant_of-self-2
invariant_of-self-2 c =
    let keys = c.self.inside.words.keys in
    let told = c.self.inside.told.items in
    let tellings = c.self.inside.tellings.items in
    let word = c.args.mask.word in
    let inside : word < length keys = omega (arith, c.requires, ap (λ (k : KeptEdges). length k.words) c.self.view_is) in
    let is : c.index-told.result.now ≡ get_or told word 0 = c.index-told.ensures ∙ get_or_default told word c.index-told.result.now 0 (omega (arith, inside, c.self.invariant.many)) in
    let low : c.index-told.result.now < 2 ^ 64 = omega arith in
    let small : get_or told word 0 < 2 ^ 64 = subst (λ n. n < 2 ^ 64) is low in
    let at : c.word-word.result ≡ word_at keys word = c.word-word.ensures ∙ ap (λ (k : KeptEdges). word_at k.words word) (sym c.self.view_is) in
    let pushed = c.push_reserved.ensures.items
    ∙ (λ i. c.reserve.ensures.items i ++ record { number = word; word = at i; bits = bit_and c.args.mask.bits (18446744073709551615 - is i); line = c.args.line } ∷ []) in
    let left : 0 < bit_and c.args.mask.bits (18446744073709551615 - c.index-told.result.now) = omega arith in
    let some : 0 < bit_and c.args.mask.bits (18446744073709551615 - get_or told word 0) = subst (λ n. 0 < bit_and c.args.mask.bits (18446744073709551615 - n)) is left in
    subst (AreTold keys (set told word (bit_or c.index-told.result.now (bit_and c.args.mask.bits (18446744073709551615 - c.index-told.result.now))))) (sym pushed)
    (subst (λ n. AreTold keys (set told word (bit_or n (bit_and c.args.mask.bits (18446744073709551615 - n)))) (tellings ++ record { number = word; word = word_at keys word; bits = bit_and c.args.mask.bits (18446744073709551615 - get_or told word 0); line = c.args.line } ∷ [])) (sym is)
    (told-mask keys told tellings c.self.invariant word inside c.args.mask.bits c.args.line small some))

pub returns-clause-told : goal.returns-clause-told
returns-clause-told c =
    let keys = c.self.inside.words.keys in
    let told = c.self.inside.told.items in
    let tellings = c.self.inside.tellings.items in
    let word = c.args.mask.word in
    let inside : word < length keys = omega (arith, c.requires, ap (λ (k : KeptEdges). length k.words) c.self.view_is) in
    let is : c.index-told.result.now ≡ get_or told word 0 = c.index-told.ensures ∙ get_or_default told word c.index-told.result.now 0 (omega (arith, inside, c.self.invariant.many)) in
    let low : c.index-told.result.now < 2 ^ 64 = omega arith in
    let small : get_or told word 0 < 2 ^ 64 = subst (λ n. n < 2 ^ 64) is low in
    let at : c.word-word.result ≡ word_at keys word = c.word-word.ensures ∙ ap (λ (k : KeptEdges). word_at k.words word) (sym c.self.view_is) in
    let pushed = c.push_reserved.ensures.items
    ∙ (λ i. c.reserve.ensures.items i ++ record { number = word; word = at i; bits = bit_and c.args.mask.bits (18446744073709551615 - is i); line = c.args.line } ∷ []) in
    ap edges_of pushed
    ∙ edges-mask keys told tellings c.self.invariant word inside c.args.mask.bits c.args.line small
    ∙ (λ i. fold with_edge_fact (edges_of tellings) (one_mask (word_at keys word).block c.args.mask.bits (word_at keys word).to c.args.line i))
    ∙ ap (λ (k : KeptEdges). fold with_edge_fact (edges_of k.tellings) (map (edge_to (word_at k.words word).to c.args.line) (classes_in (word_at k.words word).block c.args.mask.bits ++ []))) c.self.view_is
