use Rattle.std.proofs.Common.{◌≡◌, ◌<◌, ◌++◌, ◌∷◌, [], ℕ, List, All, length, length-append, nat_eq, ap, arith, subst, sym, ◌∙◌}
use Rattle.std.specs.List.{list_any}
use Rattle.ld_class.specs.Names.{plain_class}
use Rattle.ld_facts.specs.declared.scan.Scan.{Scan}
use Rattle.ld_facts.specs.Inner.Scan.{names_at}
use Rattle.ld_facts.proofs.OwnLemmas.{own-more, own-new, own-within}
use Rattle.ld_batch.proofs.NameLemmas.{length-with_name}
use Rattle.ld_facts.proofs.scan.Scan.own_class.Goals as goal

pub add-requires : goal.add-requires
add-requires c =
    ap (λ (scan : Scan). list_any (nat_eq c.in_ok-class.class) scan.own) c.number.ensures.others
    ∙ own-new c.args.self.now.classes c.args.self.now.own (plain_class c.args.name) c.requires.many.2 c.requires.new c.number.new.self.classes c.in_ok-class.class
    c.in_ok-class.ensures.classes c.in_ok-class.ensures.place

pub returns-clause-many : goal.returns-clause-many
returns-clause-many c = (
  ap (λ (scan : Scan). length scan.locks.stacks) c.number.ensures.others ∙ c.requires.many.0 ∙ ap (λ (scan : Scan). length scan.tasks) (sym c.number.ensures.others),
  ap (λ (scan : Scan). length scan.locks.interrupts) c.number.ensures.others ∙ c.requires.many.1 ∙ ap (λ (scan : Scan). length scan.tasks) (sym c.number.ensures.others),
  subst (λ (own : List ℕ). All (λ n. n < length c.number.new.self.classes) own) (sym added)
      (own-within c.args.self.now.classes c.args.self.now.own (plain_class c.args.name) c.requires.many.2 c.requires.new c.number.new.self.classes c.in_ok-class.class
      c.in_ok-class.ensures.classes c.in_ok-class.ensures.place),
  omega (
    arith,
    ap length added,
    length-append c.args.self.now.own (c.in_ok-class.class ∷ []),
    ap length c.in_ok-class.ensures.classes,
    (length-with_name c.args.self.now.classes (plain_class c.args.name)).1,
    c.requires.many.3,
  ),
)
  where
    added : c.add.new.self ≡ c.args.self.now.own ++ c.in_ok-class.class ∷ []
    added = c.in_ok-add.ensures.added ∙ ap (λ (scan : Scan). scan.own ++ c.in_ok-class.class ∷ []) c.number.ensures.others

pub returns-clause-own : goal.returns-clause-own
returns-clause-own c =
    ap (names_at c.number.new.self.classes) (c.in_ok-add.ensures.added ∙ ap (λ (scan : Scan). scan.own ++ c.in_ok-class.class ∷ []) c.number.ensures.others)
    ∙ own-more c.args.self.now.classes c.args.self.now.own (plain_class c.args.name) c.requires.many.2 c.requires.new c.number.new.self.classes c.in_ok-class.class
    c.in_ok-class.ensures.classes c.in_ok-class.ensures.place
