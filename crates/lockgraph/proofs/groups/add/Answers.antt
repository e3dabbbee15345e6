-- The group stands for all with the file behind it.
use Rattle.std.proofs.Common.{◌≡◌, ◌∙◌, ap, map, subst}
use Rattle.std.proofs.lemmas.Bool.{OnTrue_at}
use Rattle.ld_origin.specs.Origin.{plain_home}
use Rattle.ld_reduce.specs.Written.{ended}
use Rattle.lockgraph.specs.Groups.{StartsWithHeader, file_read}
use Rattle.lockgraph.proofs.GroupLemmas.{added, added-left}
use Rattle.lockgraph.proofs.groups.add.Goals as goal

pub returns-in-Ok-add_behind_left : goal.returns-in-Ok-add_behind_left
returns-in-Ok-add_behind_left g c =
    let homes : map plain_home c.as_slice-homes.result.now ≡ (file_read c.args.keeping.from c.args.name.now (ended c.args.bytes.items)).homes =
    ap (map plain_home) c.as_slice-homes.ensures.value ∙ c.in-Ok.ensures.homes
    ∙ ap (λ o. (file_read c.args.keeping.from c.args.name.now o).homes) (c.deref.ensures.value ∙ c.in_ok-bytes.ensures) in
    added-left c.args.keeping c.args.group.now c.in-Ok-add_behind_left.ensures.0 c.add_behind_left.new.group c.args.name.now c.args.bytes.items c.in_ok-bytes.bytes.items (map plain_home c.as_slice-homes.result.now)
    c.in_ok-bytes.ensures homes (subst StartsWithHeader c.deref-2.ensures.value (OnTrue_at c.if-begins.true c.begins_plainly-begins.ensures)) c.in-Ok-add_behind_left.ensures.1.0 c.in-Ok-add_behind_left.ensures.1.1

pub returns : goal.returns
returns g c =
    let homes : map plain_home c.as_slice-homes.result.now ≡ (file_read c.args.keeping.from c.args.name.now (ended c.args.bytes.items)).homes =
    ap (map plain_home) c.as_slice-homes.ensures.value ∙ c.in-Ok.ensures.homes
    ∙ ap (λ o. (file_read c.args.keeping.from c.args.name.now o).homes) (c.deref.ensures.value ∙ c.in_ok-bytes.ensures) in
    added c.args.keeping c.args.group.now c.append.new.group c.args.name.now c.args.bytes.items c.in_ok-bytes.bytes.items (map plain_home c.as_slice-homes.result.now)
    c.in_ok-bytes.ensures homes c.in_ok-append.ensures
