use Rattle.std.proofs.Common.{sym, ◌∙◌}
use Rattle.ld_class.specs.Names.{plain_class}
use Rattle.ld_class.proofs.NameLemmas.{place_of-Some}
use Rattle.ld_facts.proofs.scan.Scan.number.Goals as goal

pub returns-in-Some-clause-place : goal.returns-in-Some-clause-place
returns-in-Some-clause-place c = place_of-Some c.args.self.now.classes (plain_class c.args.name) c.in-Some.class (sym c.requires.known ∙ c.in-Some.is)
