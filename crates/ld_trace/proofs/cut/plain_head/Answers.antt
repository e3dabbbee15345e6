-- `trace`, a label and the end of a line are a header.
use Rattle.ld_trace.proofs.HeadLemmas.{BeginsPlain, head-opens, head-plain}
use Rattle.ld_trace.proofs.cut.plain_head.Goals as goal

begins : (c : goal.In_ok-rest) → BeginsPlain c.args.bytes.now c.in_ok-after.after.now c.in_ok-name.name.now c.in_ok-name.after.now c.in_ok-rest.rest.now
begins c = record {
  front = c.in_ok-after.ensures;
  goes = c.in_ok-name.ensures.whole;
  ends = c.in_ok-rest.ensures;
  word = c.in_ok-name.ensures.spelled;
}

pub returns-clause-head : goal.returns-clause-head
returns-clause-head c = head-plain _ _ _ _ _ (begins c)

pub returns-clause-header : goal.returns-clause-header
returns-clause-header c = head-opens _ _ _ _ _ (begins c)
