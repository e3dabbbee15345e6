use Rattle.std.proofs.Common.{rules, ◌≡◌, ◌<◌, ◌≤◌, ◌∙◌, ◌++◌, [], ◌∷◌, All, get_or, length, map, ap, sym, subst}
use Rattle.std.proofs.lemmas.List.{get_or-map, get_or_default, length-map, map-append, take_all, take_more}
use Rattle.std.proofs.lemmas.List.Elements.{All-push}
use Rattle.ld_class.specs.Names.{IsNameAt, no_class, plain_class}
use Rattle.ld_rules.specs.Union.{union_classes}
use Rattle.ld_book.specs.Dependencies.{usage_of_class}
use Rattle.ld_overview.specs.Overview.{IsClassRow}
use Rattle.ld_overview.proofs.overview.numbered_rows.Goals as goal

pub loop-number-preserved : goal.loop-number-preserved
loop-number-preserved c =
    let sources = c.args.book.now in
    let old = c.loop-number.rows.items in
    let n = c.loop-number.number in
    let within : n < length c.classes-classes.result.now = search rules in
    let at : IsNameAt (union_classes sources) n (plain_class c.name.result) =
    subst (λ names. IsNameAt names n (plain_class c.name.result)) c.classes-classes.ensures.all (within, sym c.name.ensures.name) in
    let none = usage_of_class sources no_class in
    let used : n < length c.usage_rows-usage.result.now =
    subst (λ m. n < m) (sym (ap length c.usage_rows-usage.ensures ∙ length-map (union_classes sources) (usage_of_class sources))) at.0 in
    record {
      each = subst (All (IsClassRow sources)) (sym c.in_ok-push.ensures.items)
          (All-push (IsClassRow sources) old _ c.loop-number.invariant.each (record {
            number = at;
            usage =
                get_or_default c.usage_rows-usage.result.now n _ none used
                ∙ ap (λ rows. get_or rows n none) c.usage_rows-usage.ensures ∙ get_or-map (usage_of_class sources) (union_classes sources) n no_class none at.0 ∙ ap (usage_of_class sources) at.1;
          }));
      names =
          ap (map (λ row. plain_class row.class)) c.in_ok-push.ensures.items ∙ map-append (λ row. plain_class row.class) old _
          ∙ (λ i. c.loop-number.invariant.names i ++ sym at.1 i ∷ []) ∙ sym (take_more (union_classes sources) n no_class at.0);
    }

pub returns : goal.returns
returns c =
    let past : length c.classes-classes.result.now ≤ c.loop-number.number = search rules in
    record {
      each = c.loop-number.invariant.each;
      names = c.loop-number.invariant.names ∙ take_all c.loop-number.number (union_classes c.args.book.now) (subst (λ names. length names ≤ c.loop-number.number) c.classes-classes.ensures.all past);
      distinct = c.classes-classes.ensures.distinct;
    }
