use Rattle.std.proofs.Common.{◌≤◌, ◌∙◌, IsSome, ap, length, subst}
use Rattle.ld_class.specs.declared.names.TheConstants.{MOST_NAMES}
use Rattle.ld_class.specs.Names.{AreDistinct, place_of}
use Rattle.ld_facts.specs.Union.{union_classes, use_witness}
use Rattle.ld_facts.specs.Usage.{Use}
use Rattle.ld_book.proofs.book.Book.classes.Goals as goal

pub returns-clause-all : goal.returns-clause-all
returns-clause-all c = c.classes.ensures.same ∙ c.self.invariant.shows.classes ∙ ap union_classes c.self.view_is

pub returns-clause-distinct : goal.returns-clause-distinct
returns-clause-distinct c = subst AreDistinct (c.self.invariant.shows.classes ∙ ap union_classes c.self.view_is) c.self.invariant.shows.numbered.distinct

pub returns-clause-few : goal.returns-clause-few
returns-clause-few c = subst (λ classes. length classes ≤ MOST_NAMES) (c.self.invariant.shows.classes ∙ ap union_classes c.self.view_is) c.classes.ensures.few

pub returns-clause-used : goal.returns-clause-used
returns-clause-used c =
    let shows = c.self.invariant.shows in
    subst (λ sources. (what : Use) → IsSome (use_witness sources what) → IsSome (place_of (union_classes sources) what.class)) c.self.view_is
    (subst (λ classes. (what : Use) → IsSome (use_witness c.self.inside.listing.sources what) → IsSome (place_of classes what.class)) shows.classes shows.used.known)
