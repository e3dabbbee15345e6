use Rattle.std.proofs.Common.{All, ap, drop, refl, subst, sym, ◌∙◌}
use Rattle.std.proofs.lemmas.List.Elements.{All-drop, All-weaker}
use Rattle.ld_class.specs.Blocks.{IsBlock}
use Rattle.ld_batch.specs.Batch.{IsShown, PlainShown}
use Rattle.ld_batch.specs.Inner.Rows as lent
use Rattle.ld_batch.specs.declared.rows.WitnessedWord.{WitnessedWord}
use Rattle.ld_facts.specs.Inner.Rows.{IsOwnWord}
use Rattle.ld_facts.proofs.RowLemmas.{slice_is}
use Rattle.ld_facts.proofs.SeriesLemmas.{series-exact}
use Rattle.ld_facts.proofs.WordRowLemmas.{words-lent}
use Rattle.ld_facts.proofs.series.Series.words.Goals as goal

pub returns-clause-same : goal.returns-clause-same
returns-clause-same c =
    let numbers = c.self.inside.rows.numbers in
    let n = c.self.inside.passed.words in
    let words = c.self.inside.rows.words.items in
    ap (lent.edges_of c.places.result.now) (slice_is c.deref.result.now words n n c.deref.ensures.value refl)
    ∙ words-lent numbers c.places.result.now c.places.ensures (drop n words) (All-drop (IsOwnWord numbers) n words c.self.invariant.own)
    ∙ ap (λ (s : PlainShown). s.edges) c.self.view_is

pub returns-clause-low : goal.returns-clause-low
returns-clause-low c =
    let numbers = c.self.inside.rows.numbers in
    let n = c.self.inside.passed.words in
    let words = c.self.inside.rows.words.items in
    subst (All (λ (w : WitnessedWord). IsBlock w.block)) (sym (slice_is c.deref.result.now words n n c.deref.ensures.value refl))
    (All-weaker (IsOwnWord numbers) (λ (w : WitnessedWord). IsBlock w.block) (λ w is. is.low) (drop n words) (All-drop (IsOwnWord numbers) n words c.self.invariant.own))

pub returns-clause-exact : goal.returns-clause-exact
returns-clause-exact c = subst IsShown c.self.view_is (series-exact _ c.self.invariant)
