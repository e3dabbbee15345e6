use Rattle.ld_pages.proofs.ReadsLemmas.{one_reading}
use Rattle.ld_pages.proofs.laws.one_reading.Goals as goal

pub returns : goal.returns
returns c = λ l bytes is js f g first second. one_reading first second
