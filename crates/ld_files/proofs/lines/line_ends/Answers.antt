-- A lane's bit says whether its byte is an LF.
use Rattle.std.proofs.Common.{eqb, arith, w8}
use Rattle.std.proofs.lemmas.Simd.{bitmask_splat}
use Rattle.ld_files.proofs.lines.line_ends.Goals as goal

pub returns : goal.returns
returns c = bitmask_splat w8 eqb c.args.bytes 32 10 c.fits-bytes.0 (omega arith)
