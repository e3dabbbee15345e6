use Rattle.ld_replay.proofs.HandlerLemmas.{last-place}
use Rattle.ld_replay.proofs.task.innermost.Goals as goal

pub returns-in-len1-up : goal.returns-in-len1-up
returns-in-len1-up c = last-place _ c.args.handlers.now c.in-len1-up.len_at_least
