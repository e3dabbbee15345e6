use Rattle.std.proofs.Common.{◌≡◌, ◌<◌, ◌+◌, ◌∙◌, arith, length, subst, take, vec_len}
use Rattle.ld_graph.specs.Inner.Trails.{IsToldFrom}
use Rattle.ld_graph.proofs.WorkLemmas.{popped, tell_count, tell_next, tell_within}
use Rattle.ld_graph.proofs.trail.Trail.tell.Goals as goal

pub index_mut-requires : goal.index_mut-requires
index_mut-requires c =
    let i = c.loop-top.invariant in
    let new = c.pop-in-loop-top.new.self in
    let old = c.loop-top.self in
    let n = vec_len new in
    let more : vec_len old.waiting ≡ n + 1 = omega (arith, c.in-Some-pop.ensures.len) in
    let p = popped c.args.self.now.waiting.items old.waiting.items new.items c.in-Some-pop.class n (omega (arith, new.ok.0)) (omega (arith, more, i.within))
    (subst (λ k. old.waiting.items ≡ take k c.args.self.now.waiting.items) more i.waiting) c.in-Some-pop.ensures.items in
    let w = tell_within c.args.self.now.waiting.items c.args.self.now.stages.items c.requires.stages n c.in-Some.top.class (omega (arith, more, i.within)) old.stages.items
    (subst (λ k. IsToldFrom c.args.self.now.waiting.items k c.in-Some.top.class c.args.self.now.stages.items old.stages.items) more i.stages) c.in-Some-pop.class p.1 in
    omega (arith, w, old.stages.ok.0)

pub loop-top-preserved : goal.loop-top-preserved
loop-top-preserved c =
    let i = c.loop-top.invariant in
    let new = c.pop-in-loop-top.new.self in
    let old = c.loop-top.self in
    let n = vec_len new in
    let more : vec_len old.waiting ≡ n + 1 = omega (arith, c.in-Some-pop.ensures.len) in
    let within : n < length c.args.self.now.waiting.items = omega (arith, more, i.within) in
    let p = popped c.args.self.now.waiting.items old.waiting.items new.items c.in-Some-pop.class n (omega (arith, new.ok.0)) within
    (subst (λ k. old.waiting.items ≡ take k c.args.self.now.waiting.items) more i.waiting) c.in-Some-pop.ensures.items in
    let told = subst (λ k. IsToldFrom c.args.self.now.waiting.items k c.in-Some.top.class c.args.self.now.stages.items old.stages.items) more i.stages in
    record {
      path = i.path;
      nexts = i.nexts;
      long = omega (arith, c.loop-top-test.true, c.len.ensures, more);
      within = omega (arith, within);
      waiting = p.0;
      stages = tell_next c.args.self.now.waiting.items c.args.self.now.stages.items c.requires.stages n c.in-Some.top.class within old.stages.items told c.in-Some-pop.class p.1;
      count = tell_count c.args.self.now.waiting.items c.args.self.now.stages.items c.requires.stages n c.in-Some.top.class within old.stages.items told c.in-Some-pop.class p.1 ∙ i.count;
    }
