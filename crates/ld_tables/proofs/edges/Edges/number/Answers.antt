use Rattle.std.proofs.Common.{◌≡◌, subst, ◌∙◌}
use Rattle.std.proofs.lemmas.List.{get_or_default}
use Rattle.ld_tables.specs.Inner.Edges.{KeptEdges, no_word, word_at}
use Rattle.ld_tables.proofs.edges.Edges.number.Goals as goal

pub returns-then-is_at-clause-number : goal.returns-then-is_at-clause-number
returns-then-is_at-clause-number c =
    subst (λ (k : KeptEdges). word_at k.words c.of-hint.result ≡ c.args.word) c.self.view_is
    (get_or_default c.self.inside.words.keys c.of-hint.result no_word c.args.word c.if-is_at.ensures.0 ∙ c.if-is_at.ensures.1)
