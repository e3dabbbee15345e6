use Rattle.std.proofs.Common.{sym}
use Rattle.ld_class.specs.Names.{plain_class}
use Rattle.ld_class.proofs.NameLemmas.{with_name-known}
use Rattle.ld_batch.proofs.names.intern_hinted.Goals as goal

pub returns-then-is_at-clause-names : goal.returns-then-is_at-clause-names
returns-then-is_at-clause-names c = sym (with_name-known c.args.names.now (plain_class c.args.class) c.args.hint c.if-is_at.ensures.at)
