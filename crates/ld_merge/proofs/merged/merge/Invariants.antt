-- What was taken, with what is merged from here on, is a merge.
use Rattle.std.proofs.Common.{◌++◌, List}
use Rattle.ld_merge.specs.declared.entry.Entry.{Entry}
use Rattle.ld_merge.specs.Heads.{AreHeads, IsMergeFrom}
use Rattle.ld_merge.specs.Merge.{GrowsByMerge}
use Rattle.ld_merge.proofs.merged.merge.Given as goal

abbrev pub invariant-entries : goal.invariant-entries
invariant-entries g l = record {
  heads : AreHeads l.last l.heads.items;
  merged : (es : List Entry) → IsMergeFrom l.heads.items l.last es
      → GrowsByMerge l.sources (g.T.Taker.taken l.fn.taker) (g.T.Taker.taken l.taker ++ es);
}
