use Rattle.std.proofs.Common.{rules, ◌≡◌}
use Rattle.std.proofs.lemmas.Fn.{always_returns_same}
use Rattle.ld_overview.specs.declared.overview.DependencyRow.{DependencyRow}
use Rattle.ld_overview.proofs.OverviewLemmas.{dependency_rows-sorted}
use Rattle.ld_overview.proofs.overview.dependency_rows.Goals as goal

pub returns : goal.returns
returns c =
    dependency_rows-sorted c.args.book.now c.in_ok-rows.rows.items c.sort_unstable_by_key.new.self.items c.in_ok-rows.ensures c.sort_unstable_by_key.ensures.permutation
    (c.sort_unstable_by_key.ensures.sorted (λ (row : DependencyRow). (row.from, row.to)) (always_returns_same _ (λ a r. r ≡ (a.0.now.from, a.0.now.to)) _ (λ a r f' k. search rules)))
