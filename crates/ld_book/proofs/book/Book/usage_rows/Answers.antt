use Rattle.std.proofs.Common.{◌∙◌, map}
use Rattle.ld_facts.specs.Union.{union_classes}
use Rattle.ld_book.specs.Dependencies.{usage_of_class}
use Rattle.ld_book.proofs.book.Book.usage_rows.Goals as goal

pub returns : goal.returns
returns c =
    let shows = c.self.invariant.shows in
    c.usage.ensures.same ∙ shows.used.each
    ∙ (λ i. map (usage_of_class (c.self.inside.listing.sources)) (shows.classes i))
    ∙ (λ i. map (usage_of_class (c.self.view_is i)) (union_classes (c.self.view_is i)))
