use Rattle.std.proofs.Common.{rules, ◌≡◌, ap, arith, length}
use Rattle.ld_fact_tests.proofs.reaches.a_seed_is_reached_where_a_walk_comes_back.Goals as goal

pub seed-requires-clause-ends : goal.seed-requires-clause-ends
seed-requires-clause-ends g c =
    let same : length c.new.result.lists.after.lists ≡ length c.add_classes.new.reach.marks = search rules in
    let len = ap (λ l. length l.after.lists) c.new.ensures.lists in
    rw (c.new.ensures.lists) (λ x y n.
    let e = c.lists.ensures.ends x y ((c.lists.ensures.after x y).0 n) in omega (arith, e, same, len, c.lists.ensures.classes))
