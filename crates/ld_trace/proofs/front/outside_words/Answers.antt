-- The bytes below 33, and those above 126.
use Rattle.std.proofs.Common.{◌+◌, ◌-◌, ◌%◌, leb, cond, not, refl, arith}
use Rattle.std.proofs.lemmas.Simd.{zip2_splat}
use Rattle.std.specs.Char.{is_ascii_graphic}
use Rattle.ld_trace.proofs.VectorLemmas.{from_splat, masked}
use Rattle.ld_trace.proofs.front.outside_words.Goals as goal

pub returns : goal.returns
returns c =
    let v = c.args.bytes in
    let long = c.fits-bytes.0 in
    masked _ (λ b. not (is_ascii_graphic b)) v _ (omega arith) c.fits-bytes.1
    (from_splat (λ a b. cond (leb a b) 255 0) _ 94 32 v long (zip2_splat (λ a b. (a + (256 - b)) % 256) v 32 33 long)) refl
