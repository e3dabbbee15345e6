use Rattle.std.proofs.Common.{◌≡◌, ◌+◌, ◌<◌, ◌∙◌, ℕ, arith, ap, drop, get_or, length, map, refl, sym, subst, Contains}
use Rattle.std.specs.List.Sorted.{IsPermutation}
use Rattle.std.proofs.lemmas.List.{length-map, take_at}
use Rattle.std.proofs.lemmas.List.Sorted.{length_permutation}
use Rattle.ld_order.specs.Orders.{HaveMoved}
use Rattle.ld_order.specs.Inner.Kept.{ranks_of}
use Rattle.ld_order.specs.Inner.Labels.{node_of}
use Rattle.ld_order.specs.Inner.Rings.{IsOneOf, IsShifted}
use Rattle.ld_order.proofs.ClassLemmas.{classes_few, have_moved, node_found, ranks_len, same_ring}
use Rattle.ld_order.proofs.moves.move_classes.Goals as goal

pub arrange-requires-clause-apart : goal.arrange-requires-clause-apart
arrange-requires-clause-apart c =
    subst (λ l. (x y : ℕ) → x < length l → y < length l → get_or l x 0 ≡ get_or l y 0 → x ≡ y) (sym c.deref.ensures.value)
    (λ x y h k e. c.requires.ring.links.once x y (h, λ z. omega (arith, h, z)) (k, λ z. omega (arith, k, z)) e)

pub arrange-requires-clause-classes : goal.arrange-requires-clause-classes
arrange-requires-clause-classes c =
    subst (λ l. (x : ℕ) → Contains c.args.classes.now x → x + 1 < length l) (sym c.deref.ensures.value) c.requires.classes

pub arrange-requires-clause-pool : goal.arrange-requires-clause-pool
arrange-requires-clause-pool c =
    let f = classes_few c.args.labels.now.items c.args.classes.now c.requires.ring.links.some c.requires.once c.requires.classes in
    omega (arith, f, c.requires.pool)

pub arrange-requires-clause-room : goal.arrange-requires-clause-room
arrange-requires-clause-room c =
    let f = classes_few c.args.labels.now.items c.args.classes.now c.requires.ring.links.some c.requires.once c.requires.classes in
    omega (arith, f, c.requires.room)

pub shift-requires-clause-ring : goal.shift-requires-clause-ring
shift-requires-clause-ring c =
    same_ring c.deref_mut.ensures.value c.deref_mut-2.ensures.value c.deref_mut-3.ensures.value c.requires.ring

pub shift-requires-clause-most : goal.shift-requires-clause-most
shift-requires-clause-most c =
    let p = subst (IsPermutation (map node_of c.args.classes.now)) (sym c.deref-2.ensures.value) c.arrange.ensures.same in
    let l = length_permutation (map node_of c.args.classes.now) c.deref-2.result.now p in
    let n = length-map c.args.classes.now node_of in
    let f = classes_few c.args.labels.now.items c.args.classes.now c.requires.ring.links.some c.requires.once c.requires.classes in
    omega (arith, l, n, f, c.requires.few)

pub shift-requires-clause-some : goal.shift-requires-clause-some
shift-requires-clause-some c = λ k l.
    let p = subst (IsPermutation (map node_of c.args.classes.now)) (sym c.deref-2.ensures.value) c.arrange.ensures.same in
    let q = node_found c.args.classes.now c.deref-2.result.now p k l in let e = q.1.1 in omega (arith, e)

pub shift-requires-clause-nodes : goal.shift-requires-clause-nodes
shift-requires-clause-nodes c = λ k l.
    let p = subst (IsPermutation (map node_of c.args.classes.now)) (sym c.deref-2.ensures.value) c.arrange.ensures.same in
    let q = node_found c.args.classes.now c.deref-2.result.now p k l in let e = q.1.1 in
    let h = c.requires.classes q.0 q.1.0 in let v = ap length c.deref_mut.ensures.value in omega (arith, e, h, v)

pub shift-requires-clause-rising : goal.shift-requires-clause-rising
shift-requires-clause-rising c =
    subst (λ l. (j k : ℕ) → j < k → k < length c.deref-2.result.now → get_or l (get_or c.deref-2.result.now j 0) 0 < get_or l (get_or c.deref-2.result.now k 0) 0)
    (c.deref.ensures.value ∙ sym c.deref_mut.ensures.value)
    (subst (λ s. (j k : ℕ) → j < k → k < length s → get_or c.deref.result.now (get_or s j 0) 0 < get_or c.deref.result.now (get_or s k 0) 0)
    (sym c.deref-2.ensures.value) c.arrange.ensures.rising)

pub shift-requires-clause-free : goal.shift-requires-clause-free
shift-requires-clause-free c = λ k l e.
    let p = subst (IsPermutation (map node_of c.args.classes.now)) (sym c.deref-2.ensures.value) c.arrange.ensures.same in
    let q = node_found c.args.classes.now c.deref-2.result.now p k l in c.requires.free q.0 q.1.0 (sym q.1.1 ∙ e)

pub shift-requires-clause-apart : goal.shift-requires-clause-apart
shift-requires-clause-apart c = λ k l e.
    let p = subst (IsPermutation (map node_of c.args.classes.now)) (sym c.deref-2.ensures.value) c.arrange.ensures.same in
    let q = node_found c.args.classes.now c.deref-2.result.now p k l in
    c.requires.apart q.0 q.1.0 (ap (λ l. get_or l c.args.at 0) (sym c.deref_mut-2.ensures.value) ∙ e ∙ q.1.1)

pub returns-clause-ring : goal.returns-clause-ring
returns-clause-ring c =
    let s = c.shift.new in let e = c.shift.ensures in
    same_ring
    (take_at s.labels (drop (length s.labels) c.args.labels.now.items) _ (e.len ∙ c.deref_mut.ensures.len))
    (take_at s.next (drop (length s.next) c.args.next.now.items) _ (e.links.0 ∙ c.deref_mut-2.ensures.len))
    (take_at s.prev (drop (length s.prev) c.args.prev.now.items) _ (e.links.1 ∙ c.deref_mut-3.ensures.len))
    e.ring

pub returns-clause-len : goal.returns-clause-len
returns-clause-len c =
    let s = c.shift.new in let e = c.shift.ensures in
    ap length (take_at s.labels (drop (length s.labels) c.args.labels.now.items) _ (e.len ∙ c.deref_mut.ensures.len))
    ∙ e.len ∙ ap length c.deref_mut.ensures.value

pub returns-clause-room : goal.returns-clause-room
returns-clause-room c = (refl, (refl, refl))

pub returns-clause-space : goal.returns-clause-space
returns-clause-space c = (c.arrange.ensures.pool, c.arrange.ensures.room)

pub returns-clause-moved : goal.returns-clause-moved
returns-clause-moved c = λ limit place.
    let p = subst (IsPermutation (map node_of c.args.classes.now)) (sym c.deref-2.ensures.value) c.arrange.ensures.same in
    subst (λ l. HaveMoved (Contains c.args.classes.now) limit (ranks_of c.args.labels.now.items) (ranks_of l))
    (sym (take_at c.shift.new.labels (drop (length c.shift.new.labels) c.args.labels.now.items) _ (c.shift.ensures.len ∙ c.deref_mut.ensures.len)))
    (have_moved c.args.classes.now c.deref-2.result.now p c.args.labels.now.items c.args.next.now.items c.args.prev.now.items c.requires.ring
    c.shift.new.labels c.shift.new.next c.shift.new.prev c.shift.ensures.ring (c.shift.ensures.len ∙ ap length c.deref_mut.ensures.value)
    (λ x m. let h = c.requires.classes x m in let n = ranks_len c.args.labels.now.items in omega (arith, h, n))
    c.args.at limit
    (subst (λ l. IsShifted (length l) (λ x. get_or l x 0) (λ x. get_or c.shift.new.labels x 0) (IsOneOf c.deref-2.result.now (length c.deref-2.result.now)) c.args.at)
    c.deref_mut.ensures.value c.shift.ensures.shifted)
    place)
