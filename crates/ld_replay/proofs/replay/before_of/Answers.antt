-- No event stands before the first line.
use Rattle.ld_trace.specs.Sources.{plain}
use Rattle.ld_replay.proofs.ReplayLemmas.{none-above}
use Rattle.ld_replay.proofs.replay.before_of.Goals as goal

pub returns-then-line-source-clause-before : goal.returns-then-line-source-clause-before
returns-then-line-source-clause-before c = none-above (plain c.args.source) c.args.line c.if-line-source.true

pub returns-then-line-replay-clause-replay : goal.returns-then-line-replay-clause-replay
returns-then-line-replay-clause-replay c = c.find.ensures.replay (plain c.args.source) c.new.ensures.replay

pub returns-clause-replay : goal.returns-clause-replay
returns-clause-replay c = c.find-2.ensures.replay (plain c.args.source) c.requires

pub returns-then-line-replay-clause-before : goal.returns-then-line-replay-clause-before
returns-then-line-replay-clause-before c = c.find.ensures.before (plain c.args.source) c.new.ensures.replay

pub returns-clause-before : goal.returns-clause-before
returns-clause-before c = c.find-2.ensures.before (plain c.args.source) c.requires
