-- What a series keeps true of its fields. No contract of a `Series` cites this file.
use Rattle.std.specs.Prelude.{◌*◌, ◌+◌, ◌≤◌, All, List, ℕ, drop, length, take}
use Rattle.ld_class.specs.Names.{PlainClass}
use Rattle.ld_rules.specs.declared.outcome.Listed.{Listed}
use Rattle.ld_rules.specs.declared.outcome.TheConstants.{MOST_CLASSES}
use Rattle.ld_facts.specs.declared.scan.Scan.{Scan}
use Rattle.ld_facts.specs.declared.series.Passed.{Passed}
use Rattle.ld_facts.specs.Inner.Kept.{Fields, IsKept}
use Rattle.ld_facts.specs.Inner.Rows.{IsOwnWord, edges_at}
use Rattle.ld_batch.specs.declared.rows.WitnessedUse.{WitnessedUse}
use Rattle.ld_batch.specs.declared.rows.WitnessedWord.{WitnessedWord}
use Rattle.ld_batch.specs.Batch.{IsBatch, PlainBatch, PlainShown, sources_of}

-- the fields, as they are seen, and how much of them was handed on
pub record Parts : Type 0 where
  pub listed : List Listed
  pub scan : Scan
  pub classes : List PlainClass
  pub numbers : List ℕ
  pub words : List WitnessedWord
  pub usage : List WitnessedUse
  pub passed : Passed

-- all that was read
abbrev pub fields_of : Parts → Fields
fields_of parts = record {
  listed = parts.listed;
  scan = parts.scan;
  classes = parts.classes;
  numbers = parts.numbers;
  edges = edges_at parts.numbers parts.words;
  usage = parts.usage;
}

-- what was handed on
abbrev pub front_of : Parts → PlainBatch
front_of parts = record {
  sources = sources_of (take parts.passed.traces parts.listed);
  classes = take parts.passed.classes parts.classes;
  edges = edges_at parts.numbers (take parts.passed.words parts.words);
  usage = take parts.passed.usage parts.usage;
}

-- what came since
abbrev pub shown_of : Parts → PlainShown
shown_of parts = record {
  behind = sources_of (take parts.passed.traces parts.listed);
  sources = sources_of (drop parts.passed.traces parts.listed);
  classes = parts.classes;
  edges = edges_at parts.numbers (drop parts.passed.words parts.words);
  usage = drop parts.passed.usage parts.usage;
}

-- All that was read is what its traces show, and so is what was handed on of it. A trace has few classes.
pub record IsSeries (parts : Parts) : Type 0 where
  pub kept : IsKept (fields_of parts)
  pub own : All (IsOwnWord parts.numbers) parts.words
  pub front : IsBatch (front_of parts)
  pub traces : parts.passed.traces ≤ length parts.listed
  pub classes : parts.passed.classes ≤ length parts.classes
  pub words : parts.passed.words ≤ length parts.words
  pub usage : parts.passed.usage ≤ length parts.usage
  pub since :
      length parts.classes ≤ parts.passed.classes + length (drop parts.passed.traces parts.listed) * MOST_CLASSES
