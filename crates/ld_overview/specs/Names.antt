-- Names of classes as texts have them.
use Rattle.std.specs.Prelude.{ℕ, ◌==◌, List, [], ◌++◌, codes, decimal, if◌then◌else◌}
use Rattle.ld_class.specs.Names.{PlainClass}

-- the name of a class: `A`, and `A/N` of its subclass N
abbrev pub class_text : PlainClass → List ℕ
class_text class = class.name ++ (if class.sub == 0 then [] else codes "/" ++ decimal class.sub)
