use Rattle.std.proofs.Common.{All, List, subst, sym}
use Rattle.std.specs.List.{Contains}
use Rattle.ld_trace.specs.Sources.{PlainSource}
use Rattle.ld_work.specs.Inner.Seen.{entries_of}
use Rattle.ld_work.proofs.SeenLemmas.{behind-listed}
use Rattle.ld_work.proofs.locked.Locked.submit_next.Goals as goal

pub add_next-requires : goal.add_next-requires
add_next-requires g c =
    behind-listed c.self.inside.book c.args.series.now.behind
    (subst (λ (book : List PlainSource). All (Contains (entries_of book)) (entries_of c.args.series.now.behind)) (sym c.self.view_is) c.requires.seen)
