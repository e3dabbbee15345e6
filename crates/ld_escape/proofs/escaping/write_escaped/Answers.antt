-- What is written is what the name is in this form, and the laws of that say the rest.
use Rattle.std.proofs.Common.{◌<◌, Err, Ok, OnOk, Result, arith}
use Rattle.std.proofs.lemmas.List.Elements.{All-from_get_or}
use Rattle.ld_escape.specs.Shown.{is_shown}
use Rattle.ld_escape.proofs.DistinctLemmas.{only_one}
use Rattle.ld_escape.proofs.SafeLemmas.{counted, safe}
use Rattle.ld_escape.proofs.escaping.write_escaped.Goals as goal

-- what is so whatever came of a call
on_ok : {T E P : Type 0} (r : Result T E) → P → OnOk r P
on_ok (Ok x) p = p
on_ok (Err e) p = tt

pub returns-clause-safe : goal.returns-clause-safe
returns-clause-safe c =
    let name = c.args.name.now in
    on_ok c.write_pieces.result (safe c.args.form (is_shown name) name (All-from_get_or (λ b. b < 256) name 0 (λ k h. omega (arith, c.type_inv.name k))))

pub returns-clause-marks : goal.returns-clause-marks
returns-clause-marks c =
    let name = c.args.name.now in
    on_ok c.write_pieces.result (counted c.args.form (is_shown name) name (All-from_get_or (λ b. b < 256) name 0 (λ k h. omega (arith, c.type_inv.name k))))

pub returns-clause-distinct : goal.returns-clause-distinct
returns-clause-distinct c = on_ok c.write_pieces.result (λ other e. only_one c.args.form other c.args.name.now e)
