-- A class, `@`, an instance and the end of the line.
use Rattle.std.proofs.Common.{◌≡◌, ◌∷◌, ◌++◌, refl, rules, ◌∙◌, ap, sym, append_assoc}
use Rattle.ld_trace.proofs.FrontLemmas.{ends-after}
use Rattle.ld_trace.proofs.fast.next_lock.Goals as goal

pub returns : goal.returns
returns c =
    let class = c.in_ok-class.class.now in
    let name = c.in_ok-name.name.now in
    let sign : c.in_ok-class.after.now ≡ 64 ∷ c.in_ok-after.after.now = search rules in
    record {
      after = c.in_ok-name.after.now;
      whole =
          c.in_ok-class.ensures.whole ∙ ap (λ o. class ++ o) (sign ∙ ap (λ o. 64 ∷ o) c.in_ok-name.ensures.whole)
          ∙ sym (append_assoc class (64 ∷ name) c.in_ok-name.after.now);
      ended = c.in_ok-rest.ensures;
      class = c.in_ok-class.ensures.spelled;
      instance = c.in_ok-name.ensures.spelled;
    }

pub next_name-requires-2 : goal.next_name-requires-2
next_name-requires-2 c =
    let sign : c.in_ok-class.after.now ≡ 64 ∷ c.in_ok-after.after.now = search rules in
    ends-after c.args.bytes.now c.in_ok-class.class.now c.in_ok-after.after.now 64 _ _ _
    (c.in_ok-class.ensures.whole ∙ ap (λ o. c.in_ok-class.class.now ++ o) sign) refl c.behind.ensures c.requires
