use Rattle.std.proofs.Common.{rules, ◌≡◌, ◌+◌, ◌<◌, ◌≤◌, ◌++◌, ◌∷◌, ◌∙◌, [], ap, drop, get_or, length, take, subst, sym, arith}
use Rattle.std.proofs.lemmas.List.{get_or-drop, length-drop, take_all, take_more}
use Rattle.std.proofs.lemmas.List.Sums.{fold_more}
use Rattle.ld_class.specs.Names.{PlainClass, no_class, plain_class, with_name}
use Rattle.ld_batch.specs.Inner.Names.{AreThere, IsLonger, with_names}
use Rattle.ld_batch.proofs.NameLemmas.{longer_more, there-more}
use Rattle.ld_batch.proofs.names.intern_all.Goals as goal

pub loop-id-preserved : goal.loop-id-preserved
loop-id-preserved c =
    let name : PlainClass = plain_class c.name-name.result in
    let added : c.intern_hinted.new.names ≡ with_name c.loop-id.names name = search rules in
    let more = c.args.more.now in
    let first = c.args.first in
    let id = c.loop-id.id in
    let within : id < length (drop first more) = omega (arith, length-drop first more, c.len.ensures.len) in
    let named : name ≡ get_or (drop first more) id no_class = c.name-name.ensures.name ∙ sym (get_or-drop first more id no_class) in
    record {
      made = added ∙ (λ i. with_name (c.loop-id.invariant.made i) (named i)) ∙ sym (fold_more with_name c.args.names.now (drop first more) id no_class within);
      counted = search rules;
      longer = subst (λ names. IsLonger c.args.names.now names (id + 1)) (sym added) (longer_more c.args.names.now c.loop-id.names name id c.loop-id.invariant.longer);
      there =
          subst (AreThere c.intern_hinted.new.names)
          (ap (λ n. take (first + id) more ++ n ∷ []) c.name-name.ensures.name ∙ sym (take_more more (first + id) no_class (omega (arith, within, length-drop first more))) ∙ ap (λ n. take n more) (omega arith))
          (subst (λ names. AreThere names (take (first + id) more ++ name ∷ [])) (sym added) (there-more c.loop-id.names (take (first + id) more) name c.loop-id.invariant.there));
    }

pub returns-clause-there : goal.returns-clause-there
returns-clause-there c =
    let past : length c.args.more.now ≤ c.args.first + c.loop-id.id = omega (arith, c.len.ensures.len) in
    subst (AreThere c.loop-id.names) (take_all (c.args.first + c.loop-id.id) c.args.more.now past) c.loop-id.invariant.there
