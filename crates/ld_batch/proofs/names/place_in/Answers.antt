use Rattle.std.proofs.Common.{subst}
use Rattle.ld_class.specs.Names.{IsNameAt, plain_class}
use Rattle.ld_class.proofs.NameLemmas.{place_of-Some}
use Rattle.ld_batch.proofs.names.place_in.Goals as goal

pub returns-then-is_at : goal.returns-then-is_at
returns-then-is_at c =
    let name = plain_class c.name-name.result in
    subst (IsNameAt c.args.names.now c.class-hint.result) c.name-name.ensures.name (place_of-Some c.args.names.now name c.class-hint.result c.if-is_at.ensures.at)
