use Rattle.std.proofs.Common.{rules, of_calls, nat_lt}
use Rattle.std.proofs.lemmas.Fn.{always_returns_same}
use Rattle.ld_places.proofs.places.reached.Goals as goal

pub returns-clause-point : goal.returns-clause-point
returns-clause-point c =
    c.partition_point.ensures.partitioned (λ part. nat_lt part.before c.args.line) (always_returns_same _ _ _ (λ a r f k. search (rules, of_calls))) c.requires
