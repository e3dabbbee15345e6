-- A fault that names a line is told with it.
use Rattle.std.proofs.Common.{inr, refl, subst, sym}
use Rattle.ld_files.specs.Quotes.{IsWithLine}
use Rattle.ld_files.specs.declared.fault.Fault.TheVariants.{BadHeaderQuoted, UnknownLineQuoted}
use Rattle.ld_files.proofs.fault.Fault.quoting.Goals as goal

pub returns-in-Ok : goal.returns-in-Ok
returns-in-Ok c =
    let told = BadHeaderQuoted c.in-BadHeader.name c.in-BadHeader.line c.in-Ok.quote in
    inr (subst (λ fault. IsWithLine c.args.bytes.now fault told) (sym c.in-BadHeader.is) (c.in-Ok.quote, refl, c.in-Ok.ensures))

pub returns-in-Ok-of : goal.returns-in-Ok-of
returns-in-Ok-of c =
    let told = UnknownLineQuoted c.in-UnknownLine.name c.in-UnknownLine.line c.in-Ok-of.quote in
    inr (subst (λ fault. IsWithLine c.args.bytes.now fault told) (sym c.in-UnknownLine.is) (c.in-Ok-of.quote, refl, c.in-Ok-of.ensures))
