-- The text of `list`: a line for each class of the union. Each line ends with LF. No clause says what is counted.
use Rattle.std.specs.Prelude.{◌≡◌, ℕ, Bool, false, ◌==◌, ◌&&◌, not, List, [], ◌∷◌, ◌++◌, slice_index_or, Option, None, Some, codes, decimal, if◌then◌else◌}
use Rattle.std.specs.List.Sorted.{IsPermutation}
use Rattle.ld_class.specs.Names.{PlainClass, plain_class, same_class}
use Rattle.ld_class.specs.Usage.{marks_of}
use Rattle.ld_class.specs.declared.usage.Usage.{Usage}
use Rattle.ld_trace.specs.Lines.{is_empty}
use Rattle.ld_trace.specs.Sources.{PlainSource}
use Rattle.ld_overview.specs.Names.{class_text}
use Rattle.ld_overview.specs.Overview.{AreClassRows}
use Rattle.ld_texts.specs.declared.list.Level.{Level}
use Rattle.ld_texts.specs.declared.list.Level.TheVariants.{OfLock, Own}
use Rattle.ld_texts.specs.declared.wanted.Listing.{Listing}
use Rattle.ld_texts.specs.declared.wanted.Listing.TheVariants as listing
use Rattle.ld_texts.specs.declared.wanted.Wanted.{Wanted}
use Rattle.ld_texts.specs.declared.wanted.Wanted.TheVariants as wanted
use Rattle.ld_overview.specs.declared.overview.ClassRow.{ClassRow}
use Rattle.ld_texts.specs.declared.figures.Figures.{Figures}

-- the usage characters of a class: `{?.+.}`
abbrev pub marks_text : Usage → List ℕ
marks_text bits = codes "{" ++ marks_of bits ++ codes "}"

-- what is counted of the class of this number
abbrev pub figures_of : List Figures → ℕ → Figures
figures_of figures class = slice_index_or figures class (record { acquired = 0; reached_from = 0; reaches = 0 })

-- ` acquired N reached-from N reaches N`
abbrev pub figures_text : Figures → List ℕ
figures_text figures =
    codes " acquired " ++ decimal figures.acquired
    ++ codes " reached-from " ++ decimal figures.reached_from
    ++ codes " reaches " ++ decimal figures.reaches
    ++ codes "\n"

-- what recursive readers of a lock wait for: `L!read`
abbrev pub readers_of : List ℕ → PlainClass
readers_of lock = record { name = lock ++ codes "!read"; sub = 0 }

-- Recursive readers of the lock above wait for this class: it is `L!read` right below `L`, which has a name and is no
-- subclass.
abbrev pub is_under : Option PlainClass → PlainClass → Bool
is_under None class = false
is_under (Some above) class =
    (above.sub == 0) && (not (is_empty above.name) && same_class class (readers_of above.name))

-- how it stands there: as `!read` below its lock, else by its name
abbrev pub level_of : Option PlainClass → PlainClass → Level
level_of above class = if is_under above class then OfLock else Own

abbrev pub head_text : Level → PlainClass → List ℕ
head_text Own class = class_text class
head_text OfLock class = codes "  !read"

-- `A {?.+.} acquired N reached-from N reaches N`
abbrev pub class_line : List Figures → Level → ClassRow → List ℕ
class_line figures level row =
    head_text level (plain_class row.class) ++ codes " " ++ marks_text row.usage.bits ++ figures_text (figures_of figures row.number)

-- the lines of classes of which the first one stands below this one
abbrev pub lines_below : List Figures → Option PlainClass → List ClassRow → List ℕ
lines_below figures above [] = []
lines_below figures above (row ∷ rows) =
    class_line figures (level_of above (plain_class row.class)) row ++ lines_below figures (Some (plain_class row.class)) rows

-- The text is the list of the classes of these traces: a line for each class of the union, with its usage.
pub record IsClassList (sources : List PlainSource) (text : List ℕ) : Type 0 where
  -- what is counted of each class, by their numbers
  pub figures : List Figures
  pub rows : List ClassRow
  pub are : AreClassRows sources rows
  -- the same rows, with `L!read` behind `L`
  pub order : List ClassRow
  pub same : IsPermutation rows order
  pub lines : text ≡ lines_below figures None order

-- what is asked for by `list` alone
abbrev pub every_class : Listing
every_class = listing.Classes

abbrev pub list_classes : Wanted
list_classes = wanted.List every_class
