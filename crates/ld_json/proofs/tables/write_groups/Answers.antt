use Rattle.std.proofs.Common.{rules}
use Rattle.ld_json.specs.Json.{group_line}
use Rattle.ld_json.proofs.Numbered.{numbered_step}
use Rattle.ld_json.proofs.tables.write_groups.Goals as goal

pub loop-place-preserved : goal.loop-place-preserved
loop-place-preserved c =
    numbered_step group_line c.args.all.now c.loop-place.place _ _ _ _ c.in_ok-write_group.ensures c.loop-place.invariant (search rules) (search rules)
