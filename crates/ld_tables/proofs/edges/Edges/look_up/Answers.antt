use Rattle.std.proofs.Common.{◌≡◌, ◌+◌, ◌<◌, ◌++◌, ◌∷◌, [], ℕ, Result, Ok, Err, IfOk, ap, if◌then◌else◌, length, sym, subst, ◌∙◌, arith}
use Rattle.std.proofs.lemmas.Option.{get_or_from_slice_get}
use Rattle.ld_tables.specs.Inner.Edges.{AreMore, KeptEdges, no_word, word_at}
use Rattle.ld_tables.proofs.WordLemmas.{AreMore-with_word, same_words-≡, told-new}
use Rattle.ld_tables.proofs.edges.Edges.look_up.Goals as goal
use Rattle.ld_tables.proofs.edges.Edges.look_up.Goals.{then-is_new, else-is_new}

pub invariant_of-self-then-is_new : goal.invariant_of-self-then-is_new
invariant_of-self-then-is_new c =
    let one : length c.insert_full.new.self.keys ≡ length c.self.inside.words.keys + 1 = c.in_ok-number.ensures.len ∙ ap (λ b. length c.self.inside.words.keys + (if b then 1 else 0)) c.if-is_new.true in
    told-new c.self.inside.words.keys c.args.word c.requires c.self.inside.told.items c.self.inside.tellings.items c.self.invariant c.insert_full.new.self.keys c.push_reserved.new.self.items
    c.in_ok-number.ensures.keys one (c.push_reserved.ensures.items ∙ ap (λ ns. ns ++ 0 ∷ []) c.reserve.ensures.items)

pub returns-clause-more : goal.returns-clause-more
returns-clause-more c =
    let words : c.if-is_new.self.words ≡ c.insert_full.new.self.keys = elim c.if-is_new.branch [ then-is_new w ↦ ap (λ (k : KeptEdges). k.words) w.self-is | else-is_new w ↦ ap (λ (k : KeptEdges). k.words) w.self-is ] in
    subst (AreMore c.args.self.now.words) (sym words)
    (subst (λ (k : KeptEdges). AreMore k.words c.insert_full.new.self.keys) c.self.view_is
    (subst (AreMore c.self.inside.words.keys) (sym c.in_ok-number.ensures.keys) (AreMore-with_word c.self.inside.words.keys c.args.word)))

-- what holds of the place holds of its number
at_number : {E : Type 0} (P : ℕ → Type 0) (place : ℕ) (r : Result ℕ E) → IfOk r (λ n. n ≡ place) → P place → IfOk r P
at_number P place (Ok n) is at = subst P (sym is) at
at_number P place (Err e) is at = tt

pub returns-clause-within : goal.returns-clause-within
returns-clause-within c =
    let words : c.if-is_new.self.words ≡ c.insert_full.new.self.keys = elim c.if-is_new.branch [ then-is_new w ↦ ap (λ (k : KeptEdges). k.words) w.self-is | else-is_new w ↦ ap (λ (k : KeptEdges). k.words) w.self-is ] in
    at_number (λ n. n < length c.if-is_new.self.words) c.in_ok-number.number c.as_number.result c.as_number.ensures (subst (λ ks. c.in_ok-number.number < length ks) (sym words) c.in_ok-number.ensures.within)

pub returns-clause-number : goal.returns-clause-number
returns-clause-number c =
    let words : c.if-is_new.self.words ≡ c.insert_full.new.self.keys = elim c.if-is_new.branch [ then-is_new w ↦ ap (λ (k : KeptEdges). k.words) w.self-is | else-is_new w ↦ ap (λ (k : KeptEdges). k.words) w.self-is ] in
    let found = c.in_ok-number.ensures.stored in
    at_number (λ n. word_at c.if-is_new.self.words n ≡ c.args.word) c.in_ok-number.number c.as_number.result c.as_number.ensures
    (ap (λ ks. word_at ks c.in_ok-number.number) words ∙ get_or_from_slice_get c.insert_full.new.self.keys c.in_ok-number.number found.0 no_word found.1 ∙ sym (same_words-≡ c.args.word found.0 found.2))
