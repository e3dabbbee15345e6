use Rattle.std.proofs.Common.{All, ap, map, refl, subst}
use Rattle.std.proofs.lemmas.List.Elements.{All-map}
use Rattle.ld_trace.specs.Sources.{Fits, plain}
use Rattle.ld_book.proofs.ListedLemmas.{apart_from_keys}
use Rattle.ld_book.proofs.listing.Listing.traces.Goals as goal

pub returns-clause-fit : goal.returns-clause-fit
returns-clause-fit c = subst (λ l. All Fits l.sources) c.self.view_is (All-map Fits (λ t. plain t.source) c.self.inside.traces.items c.self.invariant.fit)

pub returns-clause-apart : goal.returns-clause-apart
returns-clause-apart c =
    apart_from_keys c.self.inside.traces.items (map (λ t. t.source.number) c.self.inside.traces.items) c.args.self.now.sources (ap (λ l. l.sources) c.self.view_is) refl c.self.invariant.distinct
