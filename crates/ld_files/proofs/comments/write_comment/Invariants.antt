-- The bytes so far are written.
use Rattle.std.proofs.Common.{◌≡◌, ◌++◌, codes, map, take}
use Rattle.ld_files.specs.Comments.{tame}
use Rattle.ld_files.proofs.comments.write_comment.Given as goal

abbrev pub invariant-loop-byte : goal.invariant-loop-byte
invariant-loop-byte l = l.out.items ≡ l.fn.out.items ++ codes "# " ++ map tame (take l.byte-index l.remark)
