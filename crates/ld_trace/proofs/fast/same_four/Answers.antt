-- Four bytes are told by the number that they make.
use Rattle.std.proofs.Common.{refl, ap, sym, ◌∙◌, w32, nat_eq}
use Rattle.std.proofs.lemmas.Bool.{OnTrue_from, eqb-true}
use Rattle.std.proofs.lemmas.Nat.{le_bytes_4}
use Rattle.std.specs.Int.{from_le_bytes, to_le_bytes}
use Rattle.ld_trace.proofs.fast.same_four.Goals as goal

pub returns : goal.returns
returns c = OnTrue_from (nat_eq c.from_le_bytes.result c.from_le_bytes-2.result) _ (λ same.
    let a = c.args.a.now in
    let b = c.args.b.now in
    sym (le_bytes_4 a (from_le_bytes w32 a) c.told-a c.fits-a refl)
    ∙ ap (to_le_bytes w32) (sym c.from_le_bytes.ensures ∙ eqb-true c.from_le_bytes.result c.from_le_bytes-2.result same ∙ c.from_le_bytes-2.ensures)
    ∙ le_bytes_4 b (from_le_bytes w32 b) c.told-b c.fits-b refl)
