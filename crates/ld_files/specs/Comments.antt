-- Comments, which say nothing to whoever reads them as a known report.
use Rattle.std.specs.Prelude.{ℕ, ◌==◌, List, ◌++◌, map, codes, if◌then◌else◌}

-- a byte of a comment: no LF, which would end it
abbrev pub tame : ℕ → ℕ
tame byte = if byte == 10 then 63 else byte

-- a line that begins with `#` and ends with its only LF
abbrev pub comment_line : List ℕ → List ℕ
comment_line remark = codes "# " ++ map tame remark ++ codes "\n"
