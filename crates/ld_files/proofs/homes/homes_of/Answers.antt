-- One more trace has its home.
use Rattle.ld_files.proofs.HomeLemmas.{more-homes}
use Rattle.ld_files.proofs.homes.homes_of.Goals as goal

pub loop-source-preserved : goal.loop-source-preserved
loop-source-preserved c =
    more-homes c.args.places.now c.args.sources.now c.loop-source.source-index _ c.loop-source.homes.items _ c.home_of.result c.loop-source-test.true c.in_ok-push.ensures.items c.loop-source.invariant c.home_of.ensures
