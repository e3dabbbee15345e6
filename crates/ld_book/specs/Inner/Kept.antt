-- What a book keeps true of its fields.
use Rattle.std.specs.Prelude.{◌*◌, ◌≤◌, List, length}
use Rattle.ld_trace.specs.Sources.{PlainSource}
use Rattle.ld_rules.specs.declared.outcome.TheConstants.{MOST_CLASSES}
use Rattle.ld_union.specs.declared.alarms.Found.{Found}
use Rattle.ld_union.specs.Inner.Numbers.{AreFound}
use Rattle.ld_union.specs.Usage.{bits_of}
use Rattle.ld_union.specs.Inner.Union.{PlainUnion, Shows, edges_of}

-- the fields of a book, without where its bytes and names lie in memory
pub record Fields : Type 0 where
  pub sources : List PlainSource
  pub union : PlainUnion
  pub found : Found

-- What a book keeps of the traces that it lists.
pub record IsKept (book : Fields) : Type 0 where
  pub shows : Shows book.sources book.union
  pub few : length book.union.classes ≤ length book.sources * MOST_CLASSES
  pub exact : AreFound (edges_of book.union.dependencies) (bits_of book.union.usage) book.found
