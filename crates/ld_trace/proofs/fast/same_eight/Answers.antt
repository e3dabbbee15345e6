-- Eight bytes are told by the number that they make.
use Rattle.std.proofs.Common.{refl, ap, sym, ◌∙◌, w64, nat_eq}
use Rattle.std.proofs.lemmas.Bool.{OnTrue_from, eqb-true}
use Rattle.std.proofs.lemmas.Nat.{le_bytes_8}
use Rattle.std.specs.Int.{from_le_bytes, to_le_bytes}
use Rattle.ld_trace.proofs.fast.same_eight.Goals as goal

pub returns : goal.returns
returns c = OnTrue_from (nat_eq c.from_le_bytes.result c.from_le_bytes-2.result) _ (λ same.
    let a = c.args.a.now in
    let b = c.args.b.now in
    sym (le_bytes_8 a (from_le_bytes w64 a) c.told-a c.fits-a refl)
    ∙ ap (to_le_bytes w64) (sym c.from_le_bytes.ensures ∙ eqb-true c.from_le_bytes.result c.from_le_bytes-2.result same ∙ c.from_le_bytes-2.ensures)
    ∙ le_bytes_8 b (from_le_bytes w64 b) c.told-b c.fits-b refl)
