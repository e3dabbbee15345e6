-- What a batch keeps true of its fields. No contract of a `Batch` cites this file.
use Rattle.std.specs.Prelude.{◌≡◌, ◌*◌, ◌+◌, ◌<◌, ◌≤◌, All, List, [], ℕ, drop, fold, length, map, take}
use Rattle.ld_class.specs.Names.{AreDistinct, PlainClass}
use Rattle.ld_trace.specs.Sources.{PlainSource}
use Rattle.ld_rules.specs.declared.outcome.Listed.{Listed}
use Rattle.ld_rules.specs.declared.outcome.TheConstants.{MOST_CLASSES}
use Rattle.ld_rules.specs.Inner.Scanned.{AreSame, same_dependency_seen, same_use_seen, with_new}
use Rattle.ld_rules.specs.Union.{classes_of, dependencies_of, uses_of}
use Rattle.ld_tables.specs.Inner.Edges.{AreApart}
use Rattle.ld_facts.specs.declared.scan.Scan.{Scan}
use Rattle.ld_facts.specs.Named as scans
use Rattle.ld_facts.specs.Inner.Scan.{IsAt, begun, names_at, start_of}
use Rattle.ld_facts.specs.declared.bounds.TheConstants.{MOST_KNOWN}
use Rattle.ld_batch.specs.declared.rows.WitnessedEdge.{WitnessedEdge}
use Rattle.ld_batch.specs.declared.rows.WitnessedUse.{WitnessedUse}
use Rattle.ld_batch.specs.Batch.{AreOutcomes, IsBatch, PlainBatch, named_dependency, named_use, sources_of}
use Rattle.ld_batch.specs.Inner.Names.{with_names}
use Rattle.ld_batch.specs.Inner.Rows.{AreMet}
use Rattle.ld_facts.specs.Inner.Rows.{IsOwnEdge, IsOwnUse}

-- the fields, as they are seen
pub record Fields : Type 0 where
  pub listed : List Listed
  pub scan : Scan
  pub classes : List PlainClass
  pub numbers : List ℕ
  pub edges : List WitnessedEdge
  pub usage : List WitnessedUse

abbrev pub batch_of : Fields → PlainBatch
batch_of fields = record {
  sources = sources_of fields.listed;
  classes = fields.classes;
  edges = fields.edges;
  usage = fields.usage;
}

-- a trace may begin on top of what this scan has
abbrev pub IsReady : Scan → Type 0
IsReady scan = scan ≡ begun scan

-- these are the names of the classes with these numbers in the scan
pub record AreNames (known : List PlainClass) (numbers : List ℕ) (names : List PlainClass) : Type 0 where
  pub within : All (λ n. n < length known) numbers
  pub same : names_at known numbers ≡ names

-- The batch is what its traces show. A trace may begin on top of what the scan has, which is what the
-- rows have, but for the traces' numbers and the places of classes. The scan knows the batch's classes,
-- maybe among others.
pub record IsKept (fields : Fields) : Type 0 where
  pub exact : IsBatch (batch_of fields)
  pub outcomes : AreOutcomes fields.listed
  pub few : length fields.classes ≤ length fields.listed * MOST_CLASSES
  pub known :
      length fields.scan.classes ≤ MOST_KNOWN + length fields.listed * MOST_CLASSES
  pub names : AreNames fields.scan.classes fields.numbers fields.classes
  pub ready : IsReady fields.scan
  pub begun : IsAt (start_of fields.scan) [] fields.scan
  pub edges : AreMet (start_of fields.scan).edges (map (named_dependency fields.classes) fields.edges)
  pub usage : AreMet (start_of fields.scan).uses (map (named_use fields.classes) fields.usage)

-- On top of what the one scan has the other has what this source shows. Its dependencies come behind those that were
-- there, in whatever order, each once.
pub record IsRead (old : Scan) (source : PlainSource) (new : Scan) : Type 0 where
  pub names : new.classes ≡ with_names old.classes (classes_of source)
  pub few : length (classes_of source) ≤ MOST_CLASSES
  pub distinct : AreDistinct new.classes
  pub edges : AreSame (start_of new).edges
      (fold (with_new same_dependency_seen) (start_of old).edges (dependencies_of source))
  pub first : take (length (start_of old).edges) (start_of new).edges ≡ (start_of old).edges
  pub once : AreApart new.locks.edges
  pub within : All (scans.IsBetween new.classes) new.locks.edges
  pub uses : (start_of new).uses
      ≡ fold (with_new same_use_seen) (start_of old).uses (uses_of source)
  pub used : All (scans.IsUse new.classes) new.uses

-- the own classes of the scan are those of this source, and what it has more than the other is of them
pub record HasOwn (old : Scan) (source : PlainSource) (new : Scan) : Type 0 where
  pub names : AreNames new.classes new.own (classes_of source)
  pub edges : All (IsOwnEdge new.own) (drop (length old.locks.edges) new.locks.edges)
  pub uses : All (IsOwnUse new.own) (drop (length old.uses) new.uses)
