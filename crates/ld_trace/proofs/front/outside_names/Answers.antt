-- The bytes that are outside words, `@` and `/`.
use Rattle.std.proofs.Common.{ℕ, ◌+◌, ◌-◌, ◌%◌, leb, eqb, cond, not, refl, arith}
use Rattle.std.proofs.lemmas.Simd.{zip2_splat, zip2_of_maps}
use Rattle.ld_trace.specs.Inner.Front.{in_name}
use Rattle.ld_trace.proofs.VectorLemmas.{from_splat, masked}
use Rattle.ld_trace.proofs.front.outside_names.Goals as goal
use lib.Bits.{bit_or}

pub returns : goal.returns
returns c =
    let v = c.args.bytes in
    let long = c.fits-bytes.0 in
    let hit : ℕ → ℕ → ℕ = λ a b. cond (eqb a b) 255 0 in
    let outside = from_splat (λ a b. cond (leb a b) 255 0) _ 94 32 v long (zip2_splat (λ a b. (a + (256 - b)) % 256) v 32 33 long) in
    masked _ (λ b. not (in_name b)) v _ (omega arith) c.fits-bytes.1
    (zip2_of_maps bit_or _ _ v (zip2_of_maps bit_or _ _ v outside (zip2_splat hit v 32 64 long)) (zip2_splat hit v 32 47 long)) refl
