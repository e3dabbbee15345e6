-- Each of the bytes so far is said as itself.
use Rattle.std.proofs.Common.{◌≡◌, flat_map, take}
use Rattle.std.specs.Prelude.{Bool}
use Rattle.ld_escape.specs.declared.form.Form.TheVariants.{Json}
use Rattle.ld_escape.specs.Messages.{said_json}
use Rattle.ld_escape.specs.Written.{piece}
use Rattle.ld_escape.proofs.messages.plain_len.Given as goal

abbrev pub invariant-loop-count : goal.invariant-loop-count
invariant-loop-count l = (shown : Bool) →
    flat_map (said_json shown) (take l.count l.name) ≡ flat_map (piece Json shown) (take l.count l.name)
