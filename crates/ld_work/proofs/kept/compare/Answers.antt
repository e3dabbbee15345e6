use Rattle.std.proofs.Common.{All, IfSome, subst, sym}
use Rattle.std.specs.List.{Contains}
use Rattle.ld_work.proofs.SeenLemmas.{seen-there}
use Rattle.ld_work.proofs.kept.compare.Goals as goal

pub returns-clause-seen : goal.returns-clause-seen
returns-clause-seen g c = subst (λ keeper. IfSome keeper (λ all. All (Contains all) c.args.front.now)) (sym c.in-Some.is) (seen-there c.args.front.now _ c.covers.ensures.begins)
