-- Graphic bytes are UTF-8.
use Rattle.ld_places.proofs.ShownLemmas.{graphic-utf8}
use Rattle.ld_places.proofs.shown_places.text_of.Goals as goal

pub returns-in-Err : goal.returns-in-Err
returns-in-Err c = absurd (c.in-Err.ensures.cases.0 (graphic-utf8 c.args.bytes.now c.requires))
