-- What the bytes of a pattern before its first `*` come to at the front of a name.
use Rattle.std.specs.Prelude.{◌≡◌, ◌<◌, ◌≤◌, ℕ, true, false, List, length}
use Rattle.ld_baseline.specs.Match.{is_match, some_end}
use Rattle.ld_baseline.specs.declared.pattern.Front.{Front}
use Rattle.ld_baseline.specs.declared.pattern.Front.TheVariants.{Whole, Differs, Star}

-- The name matches, or doesn't; or it does if some end of what is left matches what stands behind the `*`, and so does
-- some end of the name.
abbrev pub IsFront : (pattern name : List ℕ) → Front → Type 0
IsFront pattern name Whole = is_match pattern name ≡ true
IsFront pattern name Differs = is_match pattern name ≡ false
IsFront pattern name (Star behind rest) =
    (is_match pattern name ≡ some_end (is_match behind.now) rest.now)
    × (some_end (is_match pattern) name ≡ some_end (is_match behind.now) rest.now)
    × (length behind.now < length pattern)
    × (length rest.now ≤ length name)
