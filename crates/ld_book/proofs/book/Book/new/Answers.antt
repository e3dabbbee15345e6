use Rattle.std.proofs.Common.{rules}
use Rattle.ld_book.proofs.book.Book.new.Goals as goal

pub invariant_of-result : goal.invariant_of-result
invariant_of-result c = rw (c.new.ensures, c.new-2.ensures) (record { shows = search rules; few = search rules; exact = c.new-3.ensures })
