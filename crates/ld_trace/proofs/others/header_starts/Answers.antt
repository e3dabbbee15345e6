-- A lane's bit says whether a header may begin with its byte.
use Rattle.std.proofs.Common.{ℕ, eqb, cond, refl, arith}
use Rattle.std.proofs.lemmas.Simd.{zip2_splat, zip2_of_maps}
use Rattle.ld_trace.specs.Inner.Splitting.{may_begin}
use Rattle.ld_trace.proofs.VectorLemmas.{masked}
use Rattle.ld_trace.proofs.others.header_starts.Goals as goal
use lib.Bits.{bit_or}

pub returns : goal.returns
returns c =
    let v = c.args.bytes in
    let long = c.fits-bytes.0 in
    let same : ℕ → ℕ → ℕ = λ a b. cond (eqb a b) 255 0 in
    masked _ may_begin v _ (omega arith) c.fits-bytes.1
    (zip2_of_maps bit_or _ _ v (zip2_of_maps bit_or _ _ v (zip2_splat same v 32 116 long) (zip2_splat same v 32 32 long)) (zip2_splat same v 32 9 long)) refl
