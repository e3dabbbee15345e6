use Rattle.std.proofs.Common.{rules, ◌≡◌, ap, arith, length}
use Rattle.ld_fact_tests.proofs.reaches.insert.Goals as goal

pub along-requires-clause-ends : goal.along-requires-clause-ends
along-requires-clause-ends g c =
    let same : length c.new-2.result.lists.after.lists ≡ length c.args.reach.now.marks = search rules in
    let len = ap (λ l. length l.after.lists) c.new-2.ensures.lists in
    rw (c.new-2.ensures.lists) (λ x y n.
    let e = c.lists.ensures.ends x y ((c.lists.ensures.after x y).0 n) in omega (arith, e, same, len, c.lists.ensures.classes))
