use Rattle.std.proofs.Common.{◌∙◌, ap, length, subst, sym}
use Rattle.ld_union.specs.Alarms.{AreExact}
use Rattle.ld_union.specs.Inner.Numbers.{AreWithin, named_alarms}
use Rattle.ld_union.specs.Usage.{bits_of}
use Rattle.ld_union.proofs.BitLemmas.{bits_from_used}
use Rattle.ld_union.proofs.NumberLemmas.{exact_from_found, within_from_found}
use Rattle.ld_book.proofs.book.Book.alarms.Goals as goal

pub named-requires : goal.named-requires
named-requires c =
    let union = c.self.inside.union in
    let shows = c.self.invariant.shows in
    let sources = c.self.inside.listing.sources in
    subst (λ names. AreWithin (length names) c.self.inside.found) (sym c.classes.ensures.same)
    (within_from_found union.classes (bits_of union.usage) sources (bits_from_used union.classes union.usage sources shows.used)
    union.dependencies shows.numbered shows.witnesses c.self.inside.found c.self.invariant.exact)

pub returns : goal.returns
returns c =
    let union = c.self.inside.union in
    let shows = c.self.invariant.shows in
    let sources = c.self.inside.listing.sources in
    subst (λ alarms. AreExact c.args.self.now alarms) (sym (c.named.ensures ∙ ap (λ names. named_alarms names c.self.inside.found) c.classes.ensures.same))
    (subst (λ all. AreExact all (named_alarms union.classes c.self.inside.found)) c.self.view_is
    (exact_from_found union.classes (bits_of union.usage) sources (bits_from_used union.classes union.usage sources shows.used)
    union.dependencies shows.numbered shows.witnesses c.self.inside.found c.self.invariant.exact))
