-- What stands before the first byte that is none of words is a word, where it is neither empty nor too long.
use Rattle.ld_trace.proofs.FrontLemmas.{cut-word}
use Rattle.ld_trace.proofs.front.next_word.Goals as goal

pub returns-clause-spelled : goal.returns-clause-spelled
returns-clause-spelled c = cut-word c.args.bytes.now c.word_len.result c.cut.result c.word_len.ensures.front c.cut.ensures.front
