use Rattle.std.proofs.Common.{◌≡◌, ◌++◌, ◌∙◌, Contains, OnOk, ap, subst}
use Rattle.std.proofs.lemmas.List.Elements.{All-nil}
use Rattle.ld_batch.specs.Batch.{PlainShown}
use Rattle.ld_book.proofs.book.Book.enter_one.Goals as goal

pub enter-entered-requires-clause-behind : goal.enter-entered-requires-clause-behind
enter-entered-requires-clause-behind c = rw c.shown.ensures (All-nil (Contains c.args.self.now))

pub returns-clause-ok : goal.returns-clause-ok
returns-clause-ok c =
    subst (λ more. OnOk c.enter-entered.result (c.enter-entered.new.self ≡ c.args.self.now ++ more))
    (ap (λ (shown : PlainShown). shown.sources) c.shown.ensures ∙ c.in_ok-batch.ensures) c.enter-entered.ensures.ok
