-- Those so far are written.
use Rattle.std.proofs.Common.{◌≡◌, ◌++◌, flat_map, map, take}
use Rattle.ld_files.specs.Comments.{comment_line}
use Rattle.ld_files.proofs.comments.write_comments.Given as goal

abbrev pub invariant-loop-remark : goal.invariant-loop-remark
invariant-loop-remark l = l.out.items ≡ l.fn.out.items ++ flat_map comment_line (map (λ remark. remark.items) (take l.remark-index l.remarks))
