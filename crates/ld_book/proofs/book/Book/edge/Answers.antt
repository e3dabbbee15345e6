use Rattle.std.proofs.Common.{◌∙◌, ap}
use Rattle.ld_class.specs.Names.{plain_class}
use Rattle.ld_facts.specs.Union.{dependency_witness}
use Rattle.ld_book.proofs.book.Book.edge.Goals as goal

pub returns : goal.returns
returns c =
    c.witness.ensures (dependency_witness c.self.inside.listing.sources) c.self.invariant.shows.witnesses
    ∙ ap (λ sources. dependency_witness sources (record { from = plain_class c.args.from; to = plain_class c.args.to })) c.self.view_is
