use Rattle.std.proofs.Common.{◌≡◌, ◌+◌, ◌*◌, ◌^◌, ◌%◌, ◌<◌, ◌∷◌, [], ◌++◌, List, ap, append_assoc, length, map, sym, w64, ◌∙◌, arith}
use Rattle.std.proofs.lemmas.List.{append-nil}
use Rattle.std.specs.Prelude.{bit_and}
use Rattle.std.specs.Int.{bit_not, trailing_zeros}
use Rattle.ld_class.specs.Blocks.{bits_on, classes_in}
use Rattle.ld_class.proofs.BlockLemmas.{bits_on-first, bits_on-zero}
use Rattle.ld_tables.specs.declared.edges.EdgeFact.{EdgeFact}
use Rattle.ld_tables.specs.Inner.Edges.{edge_to}
use Rattle.ld_tables.proofs.facts.add_facts.Goals as goal

pub loop-left-smaller : goal.loop-left-smaller
loop-left-smaller c =
    let some : 0 < c.loop-left.left = omega (arith, c.loop-left-test.true) in
    let low : c.loop-left.left < 2 ^ 64 = omega arith in
    omega (arith, ap length (bits_on-first c.loop-left.left some low))

pub loop-left-preserved : goal.loop-left-preserved
loop-left-preserved c =
    let some : 0 < c.loop-left.left = omega (arith, c.loop-left-test.true) in
    let low : c.loop-left.left < 2 ^ 64 = omega arith in
    let word = c.args.telling.now.word in
    let line = c.args.telling.now.line in
    let left = bit_and c.loop-left.left (bit_not w64 (1 * 2 ^ trailing_zeros w64 c.loop-left.left % 2 ^ 64)) in
    let first : EdgeFact = edge_to word.to line (64 * word.block + trailing_zeros w64 c.loop-left.left) in
    ap (λ (fs : List EdgeFact). fs ++ map (edge_to word.to line) (classes_in word.block left)) c.in_ok-push.ensures.items
    ∙ append_assoc c.loop-left.facts.items (first ∷ []) (map (edge_to word.to line) (classes_in word.block left))
    ∙ ap (λ ps. c.loop-left.facts.items ++ map (edge_to word.to line) (map (λ place. 64 * word.block + place) ps)) (sym (bits_on-first c.loop-left.left some low))
    ∙ c.loop-left.invariant

pub returns : goal.returns
returns c =
    let word = c.args.telling.now.word in
    let line = c.args.telling.now.line in
    sym (append-nil c.loop-left.facts.items)
    ∙ ap (λ ps. c.loop-left.facts.items ++ map (edge_to word.to line) (map (λ place. 64 * word.block + place) ps)) (sym (ap bits_on c.loop-left-test.false ∙ bits_on-zero))
    ∙ c.loop-left.invariant
