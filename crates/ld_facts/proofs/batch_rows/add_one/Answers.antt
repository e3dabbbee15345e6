use Rattle.std.proofs.Common.{◌≡◌, ◌++◌, ◌∷◌, [], None, get_or, ap, sym, subst, ◌∙◌}
use Rattle.ld_class.specs.Names.{no_class, place_of}
use Rattle.ld_facts.specs.Inner.Kept.{AreNames}
use Rattle.ld_facts.proofs.RowLemmas.{named-known, named-new, named-none, named-push, named-then}
use Rattle.ld_facts.proofs.batch_rows.add_one.Goals as goal

pub returns-then-has-clause-names : goal.returns-then-has-clause-names
returns-then-has-clause-names c =
    named-known c.args.known.now c.args.numbers.now c.args.names.now c.requires.names c.args.number c.requires.within (sym c.has.ensures ∙ c.if-has.true)

pub returns-clause-same : goal.returns-clause-same
returns-clause-same c =
    let name = ap (λ n. place_of c.args.known.now n) (sym c.name.ensures.name) ∙ c.name.ensures.place in
    let added = c.in_ok-push.ensures.added ∙ ap (λ n. c.args.names.now ++ n ∷ []) c.name.ensures.name in
    named-then c.add.result c.args.known.now c.args.numbers.now c.add.new.self c.push.new.self c.args.number
    (subst (AreNames c.args.known.now _) (sym added)
    (named-push c.args.known.now c.args.numbers.now c.args.names.now c.requires.names c.args.number c.requires.within c.requires.distinct name (sym c.has.ensures ∙ c.if-has.false)))
    c.add.ensures.added

pub push-requires-clause-new : goal.push-requires-clause-new
push-requires-clause-new c =
    subst (λ n. place_of c.args.names.now n ≡ None) (sym c.name.ensures.name)
    (named-none c.args.known.now c.args.numbers.now c.args.names.now c.requires.names c.args.number c.requires.within c.requires.distinct (sym c.has.ensures ∙ c.if-has.false))

pub returns-clause-names : goal.returns-clause-names
returns-clause-names c =
    named-new c.add.result c.args.names.now c.push.new.self (get_or c.args.known.now c.args.number no_class)
    (named-none c.args.known.now c.args.numbers.now c.args.names.now c.requires.names c.args.number c.requires.within c.requires.distinct (sym c.has.ensures ∙ c.if-has.false))
    (c.in_ok-push.ensures.added ∙ ap (λ n. c.args.names.now ++ n ∷ []) c.name.ensures.name)
