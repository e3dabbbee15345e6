use Rattle.std.proofs.Common.{subst, sym}
use Rattle.ld_book.specs.Dependencies.{AreDependencies}
use Rattle.ld_book.proofs.BookLemmas.{dependencies_shown}
use Rattle.ld_book.proofs.book.Book.dependencies.Goals as goal

pub returns : goal.returns
returns c =
    let union = c.self.inside.union in
    subst (AreDependencies c.args.self.now) (sym c.dependencies.ensures.same)
    (subst (λ sources. AreDependencies sources union.dependencies) c.self.view_is (dependencies_shown union c.self.inside.listing.sources c.self.invariant.shows))
