-- A class stands below the lock whose recursive readers wait for it.
use Rattle.std.proofs.Common.{◌≡◌, ◌≢◌, ◌==◌, ◌&&◌, ◌∷◌, [], Bool, List, ℕ, Some, not, refl}
use Rattle.std.proofs.lemmas.Bool.{and_from, and_parts}
use Rattle.std.proofs.lemmas.Bool.Decides.{Decides-eqb, same_from_decides}
use Rattle.std.specs.Bool.{Decides}
use Rattle.ld_class.proofs.NameLemmas.{same_class-Decides}
use Rattle.ld_class.specs.Names.{PlainClass, same_class}
use Rattle.ld_trace.specs.Lines.{is_empty}
use Rattle.ld_texts.specs.List.{is_under, readers_of}
use Rattle.ld_overview.specs.Readers.{HasReaders}

some-Decides : (name : List ℕ) → Decides (not (is_empty name)) (name ≢ [])
some-Decides [] = (λ yes. absurd (cc), λ some. absurd (some refl))
some-Decides (b ∷ name) = (λ yes same. absurd (cc), λ some. refl)

is_under-Decides : (above class : PlainClass) → Decides (is_under (Some above) class) (HasReaders above class)
is_under-Decides above class = (
  λ yes.
      let one = and_parts (above.sub == 0) (named && readers) yes in
      let two = and_parts named readers one.1 in
      ((Decides-eqb above.sub 0).0 one.0, record { some = (some-Decides above.name).0 two.0; named = (same_class-Decides class (readers_of above.name)).0 two.1 }),
  λ has.
      and_from (above.sub == 0) (named && readers) ((Decides-eqb above.sub 0).1 has.0)
      (and_from named readers ((some-Decides above.name).1 has.1.some) ((same_class-Decides class (readers_of above.name)).1 has.1.named)),
)
  where
    named : Bool
    named = not (is_empty above.name)

    readers : Bool
    readers = same_class class (readers_of above.name)

-- what `has_readers` tells
pub is_under-told : (above class : PlainClass) (told : Bool) → Decides told (HasReaders above class) → told ≡ is_under (Some above) class
is_under-told above class told is = same_from_decides told (is_under (Some above) class) is (is_under-Decides above class)
