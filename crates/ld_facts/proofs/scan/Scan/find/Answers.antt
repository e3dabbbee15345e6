use Rattle.std.proofs.Common.{Some, sym}
use Rattle.ld_class.specs.Names.{plain_class}
use Rattle.ld_class.proofs.NameLemmas.{place_of-exact}
use Rattle.ld_facts.proofs.scan.Scan.find.Goals as goal

pub returns-then-is_at-clause-exact : goal.returns-then-is_at-clause-exact
returns-then-is_at-clause-exact c =
    place_of-exact c.args.self.now.classes (plain_class c.args.name) (Some c.hint-hint.result) c.is_at.ensures.distinct (sym c.if-is_at.ensures.at)
