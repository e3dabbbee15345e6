use Rattle.std.proofs.Common.{rules, ◌≡◌}
use Rattle.std.proofs.lemmas.Fn.{always_returns_same}
use Rattle.ld_occurrences.specs.Named.{plain_dependency}
use Rattle.ld_occurrences.specs.Occurrences.{traces_of}
use Rattle.ld_occurrences.specs.declared.rows.Occurrence.{Occurrence}
use Rattle.ld_occurrences.proofs.OrderLemmas.{occurrences-sorted}
use Rattle.ld_occurrences.proofs.rows.occurrences.Goals as goal

pub returns : goal.returns
returns c =
    occurrences-sorted (traces_of c.args.traces.now) (plain_dependency c.args.what) c.in_ok-rows.rows.items c.sort_unstable_by_key.new.self.items
    c.in_ok-rows.ensures c.sort_unstable_by_key.ensures.permutation
    (c.sort_unstable_by_key.ensures.sorted (λ (row : Occurrence). (row.lines, row.source.number))
    (always_returns_same _ (λ a r. r ≡ (a.0.now.lines, a.0.now.source.number)) _ (λ a r f k. search rules)))
