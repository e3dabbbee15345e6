use Rattle.std.proofs.Common.{drop}
use Rattle.ld_batch.specs.Inner.Rows as rows
use Rattle.ld_union.specs.Inner.Noted.{IsNoting}
use Rattle.ld_union.proofs.dependencies.Dependencies.add.Given as goal

abbrev pub invariant-loop-word : goal.invariant-loop-word
invariant-loop-word l =
    let words = l.words.words.now in
    let places = l.words.places.now in
    IsNoting l.names l.batch.classes (rows.edges_of places words) (rows.edges_of places (drop l.word-index words)) l.fn.self l.self
