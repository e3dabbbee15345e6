use Rattle.std.proofs.Common.{List, ap, option_map, sym, ◌∙◌}
use Rattle.ld_trace.specs.Sources.{PlainSource}
use Rattle.ld_work.specs.Inner.Seen.{entries_of}
use Rattle.ld_work.proofs.kept.Kept.covers.Goals as goal

pub invariant_of-self : goal.invariant_of-self
invariant_of-self g c = c.self.invariant ∙ ap (λ (book : List PlainSource). option_map (λ _. entries_of book) g.H.Room.history) (sym c.covers.ensures.book)
