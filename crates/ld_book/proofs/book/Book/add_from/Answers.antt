use Rattle.std.proofs.Common.{◌≡◌, ◌++◌, ◌∙◌, Contains, Err, OnErr, OnOk, ap, false, subst, true}
use Rattle.std.proofs.lemmas.List.Elements.{All-nil}
use Rattle.ld_batch.specs.Batch.{PlainShown, shown_alone}
use Rattle.ld_book.specs.Book.{is_any_listed}
use Rattle.ld_book.specs.declared.book.AddRefusal.TheVariants.{Memory, Twice}
use Rattle.ld_book.proofs.book.Book.add_from.Goals as goal

pub add_shown-added-requires : goal.add_shown-added-requires
add_shown-added-requires c = rw c.shown.ensures (All-nil (Contains c.args.self.now))

pub returns-clause-ok : goal.returns-clause-ok
returns-clause-ok c =
    subst (λ (shown : PlainShown). OnOk c.add_shown-added.result (c.add_shown-added.new.self ≡ c.args.self.now ++ shown.sources))
    (c.shown.ensures ∙ ap shown_alone c.swap_hints-hints.ensures) c.add_shown-added.ensures.ok

pub returns-clause-twice : goal.returns-clause-twice
returns-clause-twice c =
    subst (λ (shown : PlainShown). is_any_listed c.args.self.now shown.sources ≡ true → c.add_shown-added.result ≡ Err Twice)
    (c.shown.ensures ∙ ap shown_alone c.swap_hints-hints.ensures) c.add_shown-added.ensures.twice

pub returns-clause-memory : goal.returns-clause-memory
returns-clause-memory c =
    subst (λ (shown : PlainShown). is_any_listed c.args.self.now shown.sources ≡ false → OnErr c.add_shown-added.result (c.add_shown-added.result ≡ Err Memory))
    (c.shown.ensures ∙ ap shown_alone c.swap_hints-hints.ensures) c.add_shown-added.ensures.memory
