use Rattle.std.proofs.Common.{◌∙◌, refl}
use Rattle.std.proofs.lemmas.List.Sorted.{IsPermutation-refl, IsPermutation-trans}
use Rattle.ld_book.proofs.traces.put_in_place.Goals as goal

pub loop-place-init : goal.loop-place-init
loop-place-init c = record { moved = IsPermutation-refl c.args.listed.now; count = refl }

pub loop-preserved : goal.loop-preserved
loop-preserved c = record {
  moved = IsPermutation-trans c.args.listed.now c.loop.listed c.swap.new.self c.loop.invariant.moved c.swap.ensures.permutation;
  count = c.swap.ensures.len ∙ c.loop.invariant.count;
}
