use Rattle.std.proofs.Common.{rules, ◌≡◌, ◌∙◌, ◌++◌, [], ◌∷◌, All, ℕ, map, ap, sym, subst}
use Rattle.std.proofs.lemmas.List.{map-append}
use Rattle.std.proofs.lemmas.List.Elements.{All-push}
use Rattle.ld_class.specs.declared.names.ClassName.{ClassName}
use Rattle.ld_class.specs.Names.{IsNameAt, plain_class}
use Rattle.ld_union.proofs.ByNameLemmas.{range_with_len-more}
use Rattle.ld_union.proofs.by_name.numbered_names.Goals as goal

pub loop-class-preserved : goal.loop-class-preserved
loop-class-preserved c =
    let old = c.loop-class.named.items in
    let added : ClassName × ℕ = (c.name.result, c.loop-class.class) in
    let pushed : c.push.new.self.items ≡ old ++ added ∷ [] = search rules in
    record {
      names = subst (All (λ p. IsNameAt c.args.classes.now p.1 (plain_class p.0))) (sym pushed)
          (All-push (λ p. IsNameAt c.args.classes.now p.1 (plain_class p.0)) old added c.loop-class.invariant.names (search rules));
      numbers = ap (map (λ p. p.1)) pushed ∙ map-append (λ p. p.1) old (added ∷ []) ∙ ap (λ l. l ++ c.loop-class.class ∷ [])
          c.loop-class.invariant.numbers ∙ sym (range_with_len-more c.loop-class.class);
    }
