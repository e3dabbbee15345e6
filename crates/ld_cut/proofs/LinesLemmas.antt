-- One line of several.
use Rattle.std.proofs.Common.{◌≡◌, ◌∙◌, List, ℕ, ◌∷◌, [], take, ap, sym, append-nil}
use Rattle.std.specs.List.{concat}
use Rattle.ld_trace.specs.Lines.{lines}
use Rattle.ld_reduce.proofs.LineLemmas.{lines-take}

-- the first of some lines is one line
pub one-line : (bytes line others : List ℕ) → lines bytes ≡ line ∷ lines others → lines line ≡ line ∷ []
one-line bytes line others is =
    ap lines (sym (append-nil line))
    ∙ sym (ap (λ ls. lines (concat (take 1 ls))) is)
    ∙ lines-take 1 bytes
    ∙ ap (take 1) is
