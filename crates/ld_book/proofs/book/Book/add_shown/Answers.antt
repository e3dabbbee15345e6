use Rattle.std.proofs.Common.{◌∙◌, sym}
use Rattle.std.proofs.lemmas.Bool.{true≢false}
use Rattle.ld_book.specs.Book.{is_any_listed}
use Rattle.ld_book.proofs.book.Book.add_shown.Goals as goal

pub returns-then-has_any-clause-memory : goal.returns-then-has_any-clause-memory
returns-then-has_any-clause-memory c absent = absurd (true≢false (c.if-has_any.ensures ∙ (λ i. is_any_listed (c.self.view_is i) (c.traces.ensures.sources i)) ∙ absent))

pub enter-requires-clause-fresh : goal.enter-requires-clause-fresh
enter-requires-clause-fresh c = sym (c.if-has_any.ensures ∙ (λ i. is_any_listed (c.self.view_is i) (c.traces.ensures.sources i)))

pub returns-in-Ok-clause-twice : goal.returns-in-Ok-clause-twice
returns-in-Ok-clause-twice c there =
    absurd (true≢false (sym there ∙ sym (λ i. is_any_listed (c.self.view_is i) (c.traces.ensures.sources i)) ∙ sym c.if-has_any.ensures))
