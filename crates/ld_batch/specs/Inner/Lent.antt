-- What is lent of what some traces show. No contract of a `Book` cites this file.
use Rattle.std.specs.Prelude.{◌≡◌, ℕ, List, All, length}
use Rattle.ld_class.specs.Blocks.{IsBlock}
use Rattle.ld_rules.specs.declared.outcome.Listed.{Listed}
use Rattle.ld_rules.specs.Union.{union_classes}
use Rattle.ld_batch.specs.Batch.{AreFewClasses, AreOutcomes, IsShown, PlainShown}
use Rattle.ld_batch.specs.declared.rows.WitnessedWord.{WitnessedWord}

-- These traces show that, and are listed with their outcomes. So many of the classes are of those behind. The words'
-- blocks are of classes with numbers of 32 bits.
pub record IsLent (shown : PlainShown) (traces : List Listed) (classes_behind : ℕ) (words : List WitnessedWord) : Type 0 where
  pub exact : IsShown shown
  pub outcomes : AreOutcomes traces
  pub few : AreFewClasses shown
  pub behind : classes_behind ≡ length (union_classes shown.behind)
  pub low : All (λ (w : WitnessedWord). IsBlock w.block) words
