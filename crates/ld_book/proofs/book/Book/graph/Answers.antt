use Rattle.std.proofs.Common.{◌∙◌, ap, length, subst}
use Rattle.ld_facts.specs.Union.{union_classes}
use Rattle.ld_book.specs.Dependencies.{AreDependencies}
use Rattle.ld_book.proofs.BookLemmas.{dependencies_shown}
use Rattle.ld_book.proofs.book.Book.graph.Goals as goal

pub returns-clause-classes : goal.returns-clause-classes
returns-clause-classes c = c.graph.ensures.classes ∙ ap length (c.self.invariant.shows.classes ∙ ap union_classes c.self.view_is)

pub returns-clause-edges : goal.returns-clause-edges
returns-clause-edges c =
    let union = c.self.inside.union in (
      union.dependencies,
      (
        subst (λ sources. AreDependencies sources union.dependencies) c.self.view_is (dependencies_shown union c.self.inside.listing.sources c.self.invariant.shows),
        c.graph.ensures.edges,
      ),
    )
