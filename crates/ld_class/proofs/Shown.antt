-- The names that a set's keys are seen as.
use Rattle.std.proofs.Common.{◌≡◌, List, map, sym, ◌∙◌}
use Rattle.indexmap.specs.IndexSet.{insert_key}
use Rattle.std.specs.List.{IsDistinct, list_any, position, position_or_len}
use Rattle.ld_class.specs.declared.names.ClassName.{ClassName}
use Rattle.ld_class.specs.Names.{AreDistinct, PlainClass, no_class, place_of, plain_class}
use Rattle.ld_class.specs.Names.{same_class, with_name}
use Rattle.ld_class.proofs.AnyNames.{apart-from_IsDistinct, insert_key-with_one}
use Rattle.ld_class.proofs.Mapped.{IsDistinct-map, insert_key-map, list_any-map, position-map}
use Rattle.ld_class.proofs.Mapped.{position_or_len-map}
use Rattle.ld_class.proofs.NameLemmas.{same_class-Decides}

-- each key as plain data
abbrev pub shown : List ClassName → List PlainClass
shown keys = map plain_class keys

module _ (keys : List ClassName) where
  -- a set's keys are distinct names
  pub AreDistinct-shown : IsDistinct (λ a b. same_class (plain_class a) (plain_class b)) keys
      → AreDistinct (shown keys)
  AreDistinct-shown h =
      apart-from_IsDistinct same_class no_class same_class-Decides (shown keys)
      (IsDistinct-map plain_class same_class keys h)

  -- the keys after an insert
  pub insert_key-shown : (key : ClassName)
      → shown (insert_key (λ a b. same_class (plain_class a) (plain_class b)) keys key)
      ≡ with_name (shown keys) (plain_class key)
  insert_key-shown key =
      insert_key-map plain_class same_class keys key
      ∙ insert_key-with_one same_class no_class same_class-Decides (shown keys) (plain_class key)

  module _ (name : PlainClass) where
    -- a search among the keys finds the place
    pub place_of-shown : position (λ key. same_class name (plain_class key)) keys
        ≡ place_of (shown keys) name
    place_of-shown = sym (position-map plain_class (same_class name) keys)

    -- where a search among the keys ends
    pub position_or_len-shown : position_or_len (λ key. same_class name (plain_class key)) keys
        ≡ position_or_len (same_class name) (shown keys)
    position_or_len-shown = sym (position_or_len-map plain_class (same_class name) keys)

    -- a test of the keys
    pub list_any-shown : list_any (same_class name) (shown keys)
        ≡ list_any (λ key. same_class name (plain_class key)) keys
    list_any-shown = list_any-map plain_class (same_class name) keys
