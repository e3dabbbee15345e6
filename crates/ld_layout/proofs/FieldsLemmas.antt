-- Reading the lines of fields one after the other, as a loop does.
use Rattle.std.proofs.Common.{ℕ, ◌≡◌, ◌+◌, Bool, true, false, List, [], ◌∷◌, ◌++◌, Option, Some, None, Result, Ok, Err, refl, sym, ap, ◌∙◌, append_assoc}
use Rattle.std.proofs.lemmas.List.{append-nil}
use Rattle.std.specs.List.{cons_option}
use Rattle.ld_layout.specs.declared.fault.Fault.{Fault}
use Rattle.ld_layout.specs.declared.fault.ReadError.{ReadError}
use Rattle.ld_layout.specs.declared.fault.ReadError.TheVariants as errors
use Rattle.ld_layout.specs.Lines.{◌>>=◌}
use Rattle.ld_layout.specs.Fields.{PlainField}
use Rattle.ld_layout.specs.Texts.{Fails, fields_from, is_print, line_said}

-- what was read before, and what is still read
abbrev pub with_front : List PlainField → Result (List PlainField × Bool) Fault → Result (List PlainField × Bool) Fault
with_front front read = read >>= λ x. Ok (front ++ x.0, x.1)

glue : (front : List PlainField) (f : Option PlainField) (fs : List PlainField) → front ++ cons_option f fs ≡ (front ++ cons_option f []) ++ fs
glue front None fs = ap (λ xs. xs ++ fs) (sym (append-nil front))
glue front (Some f) fs = simp append_assoc

regroup : (front : List PlainField) (f : Option PlainField) (read : Result (List PlainField × Bool) Fault) → with_front front (read >>= λ fs. Ok (cons_option f fs.0, fs.1)) ≡ with_front (front ++ cons_option f []) read
regroup front f (Ok x) = ap (λ (fs : List PlainField). Ok (fs, x.1)) (glue front f x.0)
regroup front f (Err e) = refl

pub goes_on : (front : List PlainField) (n : ℕ) (line : List ℕ) (rest all : List (List ℕ)) (f : Option PlainField) (total : Result (List PlainField × Bool) Fault) → all ≡ line ∷ rest → is_print line ≡ false → line_said n line ≡ Ok f
    → with_front front (fields_from n all) ≡ total → with_front (front ++ cons_option f []) (fields_from (n + 1) rest) ≡ total
unfolding fields_from
goes_on front n line rest all f total e p h so_far =
    let one : with_front front (fields_from n all) ≡ with_front (front ++ cons_option f []) (fields_from (n + 1) rest) = rw (e, p, h) (regroup front f (fields_from (n + 1) rest)) in
    sym one ∙ so_far

pub fails : (e : ReadError) (front : List PlainField) (n : ℕ) (line : List ℕ) (rest all : List (List ℕ)) (total : Result (List PlainField × Bool) Fault) → all ≡ line ∷ rest → is_print line ≡ false → Fails e (line_said n line)
    → with_front front (fields_from n all) ≡ total → Fails e total
unfolding fields_from
fails errors.Memory front n line rest all total e p h so_far = tt
fails (errors.Fault f) front n line rest all total e p h so_far =
    let one : with_front front (fields_from n all) ≡ Err f = rw (e, p, h) refl in
    sym so_far ∙ one

pub printed : (front : List PlainField) (n : ℕ) (line : List ℕ) (rest all : List (List ℕ)) (total : Result (List PlainField × Bool) Fault) → all ≡ line ∷ rest → is_print line ≡ true
    → with_front front (fields_from n all) ≡ total → total ≡ Ok (front, true)
unfolding fields_from
printed front n line rest all total e p so_far =
    let one : with_front front (fields_from n all) ≡ Ok (front, true) = rw (e, p) (ap (λ (fs : List PlainField). Ok (fs, true)) (append-nil front)) in
    sym so_far ∙ one

pub ended : (front : List PlainField) (n : ℕ) (all : List (List ℕ)) (total : Result (List PlainField × Bool) Fault) → all ≡ []
    → with_front front (fields_from n all) ≡ total → total ≡ Ok (front, false)
unfolding fields_from
ended front n all total e so_far =
    let one : with_front front (fields_from n all) ≡ Ok (front, false) = rw e (ap (λ (fs : List PlainField). Ok (fs, false)) (append-nil front)) in
    sym so_far ∙ one
