-- What is written is the message of the name as JSON, and the laws of that say the rest.
use Rattle.std.proofs.Common.{◌∙◌, ◌<◌, Err, Ok, OnOk, Result, ap, arith, count_by, subst, sym}
use Rattle.std.specs.List.{AllPass}
use Rattle.std.proofs.lemmas.List.Elements.{All-from_get_or}
use Rattle.ld_escape.specs.declared.form.Form.TheVariants.{Json}
use Rattle.ld_escape.specs.Messages.{message}
use Rattle.ld_escape.specs.Shown.{is_shown}
use Rattle.ld_escape.specs.Written.{is_lead, may_stand}
use Rattle.ld_escape.proofs.MessageLemmas.{as_json, bytes_of, only_message}
use Rattle.ld_escape.proofs.SafeLemmas.{counted, safe}
use Rattle.ld_escape.proofs.messages.write_message.Goals as goal

-- what is so whatever came of a call
on_ok : {T E P : Type 0} (r : Result T E) → P → OnOk r P
on_ok (Ok x) p = p
on_ok (Err e) p = tt

pub returns-clause-safe : goal.returns-clause-safe
returns-clause-safe c =
    let name = c.args.name.now in
    let json = safe Json (is_shown name) (message name) (bytes_of name (All-from_get_or (λ b. b < 256) name 0 (λ k h. omega (arith, c.type_inv.name k)))) in
    on_ok c.write_all_said.result (subst (λ text. AllPass (may_stand Json) text) (as_json (is_shown name) name) json)

pub returns-clause-marks : goal.returns-clause-marks
returns-clause-marks c =
    let name = c.args.name.now in
    let json = counted Json (is_shown name) (message name) (bytes_of name (All-from_get_or (λ b. b < 256) name 0 (λ k h. omega (arith, c.type_inv.name k)))) in
    on_ok c.write_all_said.result (ap (count_by (is_lead Json)) (sym (as_json (is_shown name) name)) ∙ json)

pub returns-clause-distinct : goal.returns-clause-distinct
returns-clause-distinct c = on_ok c.write_all_said.result (λ one e. only_message c.args.name.now one e)
