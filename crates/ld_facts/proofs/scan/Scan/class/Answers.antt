use Rattle.std.proofs.Common.{◌≡◌, ℕ, Some, false, nat_eq, ap, sym, ◌∙◌}
use Rattle.std.specs.List.{list_any}
use Rattle.ld_class.specs.Names.{place_of, plain_class}
use Rattle.ld_facts.specs.Inner.Scan.{own_names}
use Rattle.ld_facts.specs.declared.scan.Scan.{Scan}
use Rattle.ld_facts.proofs.OwnLemmas.{own-known, own-none, own-placed}
use Rattle.ld_facts.proofs.scan.Scan.class.Goals.{in-Some+else-has, in_default}
use Rattle.ld_facts.proofs.scan.Scan.class.Goals as goal

pub returns-then-has-clause-own : goal.returns-then-has-clause-own
returns-then-has-clause-own c =
    ap (λ (s : Scan). own_names s) c.find-known.ensures.same
    ∙ own-known c.args.self.now.classes c.args.self.now.own c.in-Some.class (plain_class c.args.name) ((c.find-known.ensures.exact c.in-Some.class).0 c.in-Some.is) (ap (λ (s : Scan). list_any (nat_eq c.in-Some.class) s.own) (sym c.find-known.ensures.same) ∙ sym c.has.ensures ∙ c.if-has.true)

pub returns-then-has-clause-fits : goal.returns-then-has-clause-fits
returns-then-has-clause-fits c none = absurd (
    own-placed c.args.self.now.classes c.args.self.now.own c.in-Some.class (plain_class c.args.name)
    ((c.find-known.ensures.exact c.in-Some.class).0 c.in-Some.is) (ap (λ (s : Scan). list_any (nat_eq c.in-Some.class) s.own) (sym c.find-known.ensures.same) ∙ sym c.has.ensures ∙ c.if-has.true) none)

pub own_class-requires-clause-new : goal.own_class-requires-clause-new
own_class-requires-clause-new c =
    ap (λ (s : Scan). place_of (own_names s) (plain_class c.args.name)) c.find-known.ensures.same
    ∙ own-none c.args.self.now.classes c.args.self.now.own (plain_class c.args.name) c.requires.many.2 (λ id at. none id ((c.find-known.ensures.exact id).1 at))
  where
    none : (id : ℕ) → c.find-known.result ≡ Some id → list_any (nat_eq id) c.args.self.now.own ≡ false
    none = elim c.match-known.branch [
      | in-Some+else-has w ↦ (λ id is. let same : w.in-Some.class ≡ id = cc in ap (λ n. list_any (nat_eq n) c.args.self.now.own) (sym same) ∙ ap (λ (s : Scan). list_any (nat_eq w.in-Some.class) s.own) (sym c.find-known.ensures.same) ∙ sym w.has.ensures ∙ w.if-has.false)
      | in_default w ↦ (λ id is. absurd (w.in_default.not-Some id is))
    ]
