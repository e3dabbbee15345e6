use Rattle.std.proofs.Common.{nat_eq, ◌∙◌}
use Rattle.std.proofs.lemmas.Slice.Eq.{bytes_eq-Decides}
use Rattle.std.specs.Bool.{one_answer}
use Rattle.ld_class.proofs.ByteLemmas.{four-Decides}
use Rattle.ld_class.proofs.bytes.same_four.Goals as goal

pub returns : goal.returns
returns c =
    let a = c.args.a.now in
    let b = c.args.b.now in
    (λ i. nat_eq (c.from_le_bytes.ensures i) (c.from_le_bytes-2.ensures i))
    ∙ one_answer _ _ (four-Decides a b c.told-a c.told-b c.fits-a c.fits-b) (bytes_eq-Decides a b)
