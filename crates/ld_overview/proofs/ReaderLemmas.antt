-- A class is what recursive readers of one lock wait for.
use Rattle.std.proofs.Common.{◌≡◌, ◌∙◌, List, ℕ, codes, sym}
use Rattle.std.proofs.lemmas.List.{append_cancel_right}
use Rattle.ld_class.specs.Names.{PlainClass}
use Rattle.ld_overview.specs.Readers.{IsForReaders}

pub one_lock : (one other : List ℕ) (class : PlainClass) → IsForReaders one class → IsForReaders other class → one ≡ other
one_lock one other class is also = append_cancel_right one other (codes "!read") (λ i. ((sym is.named ∙ also.named) i).name)
