-- One processor more.
use Rattle.std.proofs.Common.{ap, arith, length, length-append}
use Rattle.ld_merge.specs.declared.head.Head.{Head}
use Rattle.ld_merge.proofs.HeadLemmas.{more_heads, more_left}
use Rattle.ld_merge.proofs.head.heads_of.Goals as goal

pub sources-preserved : goal.sources-preserved
sources-preserved c =
    let i = c.sources.invariant in
    let x = c.in_ok-head.head in
    record {
      count = omega (arith, ap length c.in_ok-add.ensures, length-append {A = Head}, i.count);
      each = more_left c.args.sources.now c.sources.heads.items c.add.new.heads.items c.sources.processor x c.source_at-events.result
          c.in_ok-add.ensures i.count c.source_at-events.ensures c.in_ok-head.ensures.left i.each;
      heads = more_heads c.sources.heads.items c.add.new.heads.items c.sources.processor x c.source_at-events.result.cursor.time
          c.in_ok-add.ensures i.count c.in_ok-head.ensures.timed c.in_ok-head.ensures.at_end i.heads;
    }
