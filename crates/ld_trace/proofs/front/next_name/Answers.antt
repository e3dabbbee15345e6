-- What stands before the first byte that is none of names is a name, where it is neither empty nor too long.
use Rattle.ld_trace.proofs.FrontLemmas.{cut-name}
use Rattle.ld_trace.proofs.front.next_name.Goals as goal

pub returns-clause-spelled : goal.returns-clause-spelled
returns-clause-spelled c = cut-name c.args.bytes.now c.name_len.result c.cut.result c.name_len.ensures.front c.cut.ensures.front
