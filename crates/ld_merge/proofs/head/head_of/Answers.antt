-- What a call for the next item says, with the item in front.
use Rattle.ld_merge.proofs.HeadLemmas.{next_end, next_left, next_timed}
use Rattle.ld_merge.proofs.head.head_of.Goals as goal

pub returns-in-Ok-clause-left : goal.returns-in-Ok-clause-left
returns-in-Ok-clause-left c = next_left c.args.events c.next.new.self c.in-Ok.item c.in-Ok.ensures.pages

pub returns-in-Ok-clause-timed : goal.returns-in-Ok-clause-timed
returns-in-Ok-clause-timed c = next_timed c.args.events c.next.new.self c.in-Ok.item c.in-Ok.ensures.pages

pub returns-in-Ok-clause-at_end : goal.returns-in-Ok-clause-at_end
returns-in-Ok-clause-at_end c = next_end c.args.events c.next.new.self c.in-Ok.item c.in-Ok.ensures.pages
