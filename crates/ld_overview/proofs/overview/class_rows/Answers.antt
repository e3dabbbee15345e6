use Rattle.std.proofs.Common.{rules, ◌≡◌, IsPermutation, IsSortedByKey, subst, sym}
use Rattle.std.proofs.lemmas.Fn.{always_returns_same}
use Rattle.ld_overview.specs.declared.overview.ClassRow.{ClassRow}
use Rattle.ld_overview.proofs.OverviewLemmas.{class_rows-sorted}
use Rattle.ld_overview.proofs.overview.class_rows.Goals as goal

pub returns : goal.returns
returns c =
    class_rows-sorted c.args.book.now c.in_ok-rows.rows.items c.sort_unstable_by_key.new.self.items c.in_ok-rows.ensures c.sort_unstable_by_key.ensures.permutation
    (c.sort_unstable_by_key.ensures.sorted (λ (row : ClassRow). row.class) (always_returns_same _ (λ a r. r ≡ a.0.now.class) _ (λ a r f k. search rules)))
