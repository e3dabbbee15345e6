-- Which names can be shown as they are.
use Rattle.std.specs.Prelude.{ℕ, Bool, not, ◌&&◌, ◌||◌, ◌==◌, List, chars, nat_le, nat_lt}
use Rattle.std.specs.List.{list_any}
use Rattle.std.specs.Str.{is_utf8}

-- A control character from 128 on, one that ends a line or turns the direction of what follows, or one that XML
-- can't have.
abbrev pub is_odd : ℕ → Bool
is_odd c =
    (nat_le 128 c && nat_lt c 160) || c == 0x2028 || c == 0x2029 || (nat_le 0x202a c && nat_lt c 0x202f)
    || (nat_le 0x2066 c && nat_lt c 0x206a) || (nat_le 0xfffe c && nat_lt c 0x10000)

-- UTF-8 without an odd character
abbrev pub is_shown : List ℕ → Bool
is_shown name = is_utf8 name && not (list_any is_odd (chars name))
