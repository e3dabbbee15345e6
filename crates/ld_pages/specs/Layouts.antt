-- Where the parts of a page stand.
use Rattle.std.specs.Prelude.{◌+◌, ◌^◌, Bool, ◌&&◌, ◌||◌, ◌==◌, nat_le}
use Rattle.ld_pages.specs.declared.layout.Layout.{Layout}

-- all parts stand in the page, the data last
abbrev pub is_layout : Layout → Bool
is_layout l =
    (l.word == 4 || l.word == 8) && nat_le l.size (2 ^ 30) && nat_le l.data l.size
    && nat_le (l.stamp + 8) l.data && nat_le (l.commit + l.word) l.data
