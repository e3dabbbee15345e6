use Rattle.std.proofs.Common.{◌≡◌, ◌++◌, ◌∙◌, All, Contains, Err, OnErr, OnOk, false, subst, sym, true}
use Rattle.ld_batch.specs.Batch.{PlainShown}
use Rattle.ld_book.specs.Book.{is_any_listed}
use Rattle.ld_book.specs.declared.book.AddRefusal.TheVariants.{Memory, Twice}
use Rattle.ld_book.proofs.book.Book.add_next.Goals as goal

pub add_shown-added-requires : goal.add_shown-added-requires
add_shown-added-requires c =
    subst (λ (shown : PlainShown). All (Contains c.args.self.now) shown.behind) (sym (c.shown.ensures ∙ c.swap_hints-hints.ensures)) c.requires

pub returns-clause-ok : goal.returns-clause-ok
returns-clause-ok c =
    subst (λ (shown : PlainShown). OnOk c.add_shown-added.result (c.add_shown-added.new.self ≡ c.args.self.now ++ shown.sources))
    (c.shown.ensures ∙ c.swap_hints-hints.ensures) c.add_shown-added.ensures.ok

pub returns-clause-twice : goal.returns-clause-twice
returns-clause-twice c =
    subst (λ (shown : PlainShown). is_any_listed c.args.self.now shown.sources ≡ true → c.add_shown-added.result ≡ Err Twice)
    (c.shown.ensures ∙ c.swap_hints-hints.ensures) c.add_shown-added.ensures.twice

pub returns-clause-memory : goal.returns-clause-memory
returns-clause-memory c =
    subst (λ (shown : PlainShown). is_any_listed c.args.self.now shown.sources ≡ false → OnErr c.add_shown-added.result (c.add_shown-added.result ≡ Err Memory))
    (c.shown.ensures ∙ c.swap_hints-hints.ensures) c.add_shown-added.ensures.memory
