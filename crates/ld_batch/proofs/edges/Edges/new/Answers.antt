use Rattle.std.proofs.Common.{◌++◌, ap, refl}
use Rattle.ld_batch.specs.Inner.Rows.{edges_of}
use Rattle.ld_batch.proofs.EdgeLemmas.{edges-none}
use Rattle.ld_batch.proofs.edges.Edges.new.Goals as goal

pub returns : goal.returns
returns c =
    let words = c.args.words in
    ap (λ edges. edges ++ edges_of words.places.now words.words.now)
    (edges-none words.places.now (record { number = 0; block = 0; to = 0; bits = 0; witness = record { number = 0; line = 0 } }) refl)
