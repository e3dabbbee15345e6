-- No other lock has these readers.
use Rattle.std.proofs.Common.{subst, sym}
use Rattle.std.proofs.lemmas.Bool.Decides.{Decides-eqb}
use Rattle.std.proofs.lemmas.Slice.Eq.{slice_eq-Decides}
use Rattle.ld_class.specs.Names.{plain_class}
use Rattle.ld_overview.specs.Readers.{IsForReaders}
use Rattle.ld_overview.proofs.ReaderLemmas.{one_lock}
use Rattle.ld_overview.proofs.readers.has_readers.Goals as goal

pub returns-then-class-eq0 : goal.returns-then-class-eq0
returns-then-class-eq0 c =
    let same = slice_eq-Decides Decides-eqb c.args.class.name.now c.in-Some.lock.now c.eq.result c.eq.ensures in
    let other = plain_class c.args.other in
    let is : IsForReaders c.in-Some.lock.now other = c.in-Some.ensures.readers_of in (
      λ yes. (c.if-class-eq0.true, subst (λ lock. IsForReaders lock other) (sym (same.0 yes)) is),
      λ has. same.1 (one_lock c.args.class.name.now c.in-Some.lock.now other has.1 is),
    )
