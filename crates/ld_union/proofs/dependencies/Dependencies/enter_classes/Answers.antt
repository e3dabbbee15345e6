use Rattle.std.proofs.Common.{rules, ◌≡◌, ◌+◌, ap, arith}
use Rattle.ld_graph.specs.Edges.{PlainGraph}
use Rattle.ld_graph.specs.Reach.{PlainReach}
use Rattle.ld_union.proofs.ReachedLemmas.{further-same, further-then}
use Rattle.ld_union.proofs.dependencies.Dependencies.enter_classes.Goals as goal

pub loop-preserved : goal.loop-preserved
loop-preserved c =
    let was = c.loop.invariant in
    let graph = c.add_class.ensures.graph in
    let classes : c.add_class.new.self.classes ≡ c.loop.self.graph.classes + 1 = ap (λ (g : PlainGraph). g.classes) graph in
    let hard = c.add_class-in-loop.ensures.hard in
    let soft = c.add_class-in-loop.ensures.soft in
    record {
      so_far = search rules;
      room = search rules;
      edges = search rules;
      spare = search rules;
      rows = was.rows;
      closing = was.closing;
      room_hard = omega (arith, was.room_hard, was.so_far, classes, ap (λ (r : PlainReach). r.spare) hard);
      room_soft = omega (arith, was.room_soft, was.so_far, classes, ap (λ (r : PlainReach). r.spare) soft);
      further = further-then c.args.self.now.reach c.loop.self.reach c.add_class-in-loop.new.self was.further c.add_class-in-loop.ensures.further;
      exact = λ edges state seeds is. c.add_class-in-loop.ensures.exact edges state seeds (was.exact edges state seeds is);
    }

pub loop-init : goal.loop-init
loop-init c = record {
  so_far = search rules;
  room = search rules;
  edges = search rules;
  spare = search rules;
  rows = search rules;
  closing = search rules;
  room_hard = search rules;
  room_soft = search rules;
  further = further-same c.args.self.now.reach;
  exact = λ edges state seeds is. is;
}
