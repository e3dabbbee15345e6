-- Locks that recursive readers wait for, each of two classes.
use Rattle.std.specs.Prelude.{◌≡◌, ◌≢◌, ◌++◌, [], List, ℕ, codes}
use Rattle.ld_class.specs.Names.{PlainClass}

-- What recursive readers of a lock wait for is the class whose name is that of the lock with `!read` behind it.
-- Without a name no lock is meant.
pub record IsForReaders (lock : List ℕ) (class : PlainClass) : Type 0 where
  pub some : lock ≢ []
  pub named : class ≡ record { name = lock ++ codes "!read"; sub = 0 }

-- recursive readers of locks of the first class, which is no subclass, wait for the second one
abbrev pub HasReaders : PlainClass → PlainClass → Type 0
HasReaders class other = (class.sub ≡ 0) × IsForReaders class.name other
