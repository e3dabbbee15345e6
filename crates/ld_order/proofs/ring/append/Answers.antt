use Rattle.std.proofs.Common.{◌≡◌, ◌+◌, ◌<◌, ◌++◌, ◌∷◌, [], ◌∙◌, arith, ap, get_or, set, length, max, sym, subst}
use Rattle.std.proofs.lemmas.List.{get_or_read}
use Rattle.ld_order.specs.declared.labels.TheConstants.{STEP}
use Rattle.ld_order.specs.declared.ring.TheConstants.{FIRST}
use Rattle.ld_order.specs.Inner.Rings.{IsRing}
use Rattle.ld_order.proofs.AppendLemmas.{pushed}
use Rattle.ld_order.proofs.ring.append.Goals as goal

pub returns-clause-ring : goal.returns-clause-ring
returns-clause-ring c =
    let r = c.requires in
    let last : c.index-last.result.now ≡ get_or c.args.prev.now.items 0 0 =
    get_or_read c.args.prev.now.items 0 c.index-last.result.now (let q = r.ring.prev_len in let s = r.ring.links.some in omega (arith, q, s)) c.index-last.ensures 0 in
    let inside : c.index-last.result.now < length c.args.labels.now.items =
    (let s = r.ring.links.some in let q = (r.ring.links.prev_in 0 (s, λ z. omega (arith, z, s))).0 in omega (arith, last, q)) in
    let top : c.index.result.now ≡ get_or c.args.labels.now.items (get_or c.args.prev.now.items 0 0) 0 =
    get_or_read c.args.labels.now.items c.index-last.result.now c.index.result.now inside c.index.ensures 0
    ∙ ap (λ v. get_or c.args.labels.now.items v 0) last in
    let node : c.len-node.result ≡ length c.args.labels.now.items = omega (arith, c.len-node.ensures) in
    subst (λ m. IsRing c.push_reserved.new.self.items (set c.push_reserved-2.new.self.items c.index-last.result.now m) (set c.push_reserved-3.new.self.items 0 m)) (sym node)
    (subst (λ v. IsRing c.push_reserved.new.self.items (set c.push_reserved-2.new.self.items v (length c.args.labels.now.items)) (set c.push_reserved-3.new.self.items 0 (length c.args.labels.now.items))) (sym last)
    (pushed c.args.labels.now.items c.args.next.now.items c.args.prev.now.items r.ring (max (get_or c.args.labels.now.items (get_or c.args.prev.now.items 0 0) 0 + STEP) FIRST) (omega arith)
    c.push_reserved.new.self.items c.push_reserved-2.new.self.items c.push_reserved-3.new.self.items
    (c.push_reserved.ensures.items ∙ ap (λ v. c.args.labels.now.items ++ v ∷ []) (c.max-label.ensures ∙ ap (λ v. max (v + STEP) FIRST) top))
    c.push_reserved-2.ensures.items
    (c.push_reserved-3.ensures.items ∙ ap (λ v. c.args.prev.now.items ++ v ∷ []) last)))
