use Rattle.std.proofs.Common.{◌≡◌, ◌<◌, ◌≤◌, ◌∙◌, ◌∷◌, ◌++◌, [], None, Some, Vec, Contains, ap, arith, get_or, is_some, length, not, refl, set, subst, sym, true≢false}
use Rattle.std.proofs.lemmas.List.{get_or_default, length-set, length_push}
use Rattle.std.proofs.lemmas.List.Elements.{Contains-get_or}
use Rattle.ld_graph.proofs.SpreadLemmas.{count_marked, none_is}
use Rattle.ld_graph.proofs.TouchedLemmas.{touched_more}
use Rattle.ld_tree.proofs.PartLemmas.{part_pass, part_push, place_kept, touched_found}
use Rattle.ld_tree.proofs.tree.expand.Goals as goal
use Rattle.ld_tree.proofs.tree.expand.Goals.{then-is_none+in_ok-push+in_ok-push-2, else-is_none}

pub returns-in_err-push-2-clause-touched : goal.returns-in_err-push-2-clause-touched
returns-in_err-push-2-clause-touched c =
    let x = get_or c.args.near.now c.loop-x.x-index 0 in
    let low = c.requires.within c.loop-x.x-index c.loop-x-test.true in
    rw c.in_ok-push.ensures.items (touched_found c.loop-x.numbers.items c.loop-x.found.items x (omega (arith, low, c.loop-x.invariant.size)) c.loop-x.invariant.touched)

pub loop-x-preserved : goal.loop-x-preserved
loop-x-preserved c =
    let i = c.loop-x.invariant in
    let near = c.args.near.now in
    let k = c.loop-x.x-index in
    let x = get_or near k 0 in
    let place = c.args.place in
    let found = c.loop-x.found.items in
    let from = c.loop-x.from.items in
    let numbers = c.loop-x.numbers.items in
    let low = c.requires.within k c.loop-x-test.true in
    let within : x < length numbers = omega (arith, low, i.size) in
    let read : get_or numbers x None ≡ c.index.result.now = get_or_default numbers x None c.index.result.now within ∙ sym c.index.ensures in
    let is : is_some (get_or numbers x None) ≡ not c.is_none.result = ap (λ o. is_some o) read ∙ c.is_none.ensures in
    elim c.if-is_none.branch [
      | then-is_none+in_ok-push+in_ok-push-2 w ↦
          let free : get_or numbers x None ≡ None = none_is (get_or numbers x None) (is ∙ ap not w.if-is_none.true) in
          let number : w.len-number.result ≡ length found = omega (arith, w.len-number.ensures, c.loop-x.found.ok.0) in
          let numbers' : c.if-is_none.numbers.items ≡ set numbers x (Some (length found)) = ap (λ (v : Vec _ _). v.items) w.numbers-is ∙ ap (λ n. set numbers x (Some n)) number in
          let found' : c.if-is_none.found.items ≡ found ++ x ∷ [] = ap (λ (v : Vec _ _). v.items) w.found-is ∙ w.in_ok-push.ensures.items in
          let from' : c.if-is_none.from.items ≡ from ++ place ∷ [] = ap (λ (v : Vec _ _). v.items) w.from-is ∙ w.in_ok-push-2.ensures.items in
          let m = count_marked numbers x (length found) within free in
          let p = length_push found x in
          let s = length-set numbers x (Some (length found)) in
          let there : place ≤ length found = omega (arith, c.requires.place, i.longer) in
          let step = subst (λ a. Contains a x) (c.requires.near ∙ ap (λ q. get_or c.args.leading.now.lists q []) (sym i.at)) (Contains-get_or near k 0 c.loop-x-test.true) in
          rw (numbers', found', from') (record {
            size = omega (arith, s, i.size);
            count = omega (arith, m, p, i.count);
            longer = omega (arith, p, i.longer);
            at = place_kept c.args.start found x place there ∙ i.at;
            touched = touched_more numbers found x (length found) within i.touched;
            part = part_push c.args.leading.now c.args.start place near k found from numbers i.part x refl c.loop-x-test.true step c.requires.order there within free;
          })
      | else-is_none w ↦
          rw (w.numbers-is, w.found-is, w.from-is) (record {
            size = i.size;
            count = i.count;
            longer = i.longer;
            at = i.at;
            touched = i.touched;
            part = part_pass c.args.leading.now c.args.start place near k found from numbers i.part i.touched x refl
                (λ none. true≢false (sym (is ∙ ap not w.if-is_none.false) ∙ ap (λ o. is_some o) none));
          })
    ]
