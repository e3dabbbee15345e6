use Rattle.std.proofs.Common.{◌≡◌, ◌++◌, ◌∷◌, [], ◌∙◌, List, None, IfSome, refl, subst, sym}
use Rattle.std.specs.List.{last_or}
use Rattle.ld_trace.specs.Sources.{PlainSource, plain}
use Rattle.ld_batch.specs.Batch.{PlainShown}
use Rattle.ld_work.proofs.SeenLemmas.{last-on, last-read, some-ok}
use Rattle.ld_work.proofs.workers.read.Goals as goal

-- the trace that was read is the last one
last_is : (old new : PlainShown) (source : PlainSource) → new.sources ≡ old.sources ++ source ∷ [] → new.behind ≡ old.behind
    → IfSome (last_or None (new.behind ++ new.sources)) (λ last. last.number ≡ source.number)
last_is old new source sources behind =
    subst (λ o. IfSome o (λ last. last.number ≡ source.number)) (sym ((λ i. last_or None (behind i ++ sources i)) ∙ last-read old.behind old.sources source)) refl

pub returns-else-is_due : goal.returns-else-is_due
returns-else-is_due g c = last_is c.args.told.now c.push.new.self (plain c.args.source) c.in_ok-push.ensures.ok c.push.ensures.behind

pub returns-then-is_due : goal.returns-then-is_due
returns-then-is_due g c =
    some-ok c.hand_on.result
    (last-on c.args.source.number c.push.new.self c.hand_on.new.self (last_is c.args.told.now c.push.new.self (plain c.args.source) c.in_ok-push.ensures.ok c.push.ensures.behind) c.hand_on.ensures)
