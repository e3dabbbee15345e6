use Rattle.std.proofs.Common.{[], ◌∷◌, refl}
use Rattle.ld_history.proofs.Moves.{begins}
use Rattle.ld_history.proofs.history.Opened.new.Goals as goal

pub of_words-requires : goal.of_words-requires
of_words-requires c = begins (0 ∷ []) refl
