use Rattle.std.proofs.Common.{◌∙◌, sym}
use Rattle.std.proofs.lemmas.Bool.{true≢false}
use Rattle.ld_book.specs.Book.{is_listed}
use Rattle.ld_book.proofs.book.Book.add.Goals as goal

pub returns-then-has-clause-memory : goal.returns-then-has-clause-memory
returns-then-has-clause-memory c absent = absurd (true≢false (c.if-has.ensures ∙ (λ i. is_listed (c.self.view_is i) (c.source.ensures.source i).number) ∙ absent))

pub enter_one-requires : goal.enter_one-requires
enter_one-requires c = sym (c.if-has.ensures ∙ (λ i. is_listed (c.self.view_is i) (c.source.ensures.source i).number))

pub returns-in-Ok-clause-twice : goal.returns-in-Ok-clause-twice
returns-in-Ok-clause-twice c there =
    absurd (true≢false (sym there ∙ sym (λ i. is_listed (c.self.view_is i) (c.source.ensures.source i).number) ∙ sym c.if-has.ensures))

pub returns-clause-twice : goal.returns-clause-twice
returns-clause-twice c there =
    absurd (true≢false (sym there ∙ sym (λ i. is_listed (c.self.view_is i) (c.source.ensures.source i).number) ∙ sym c.if-has.ensures))
