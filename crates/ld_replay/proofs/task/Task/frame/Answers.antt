use Rattle.std.proofs.Common.{None, ap, map, sym, ◌∙◌}
use Rattle.std.specs.List.{last_or}
use Rattle.ld_replay.specs.Inner.Task.{frame_now, inner_handler}
use Rattle.std.proofs.lemmas.Simd.{map-map}
use Rattle.ld_replay.proofs.task.Task.frame.Goals as goal

pub returns : goal.returns
returns c =
    c.innermost.ensures
    ∙ ap (λ hs. last_or None (map (λ h. h.place) hs)) c.deref.ensures.value
    ∙ sym (ap (last_or None) (map-map (λ h. h.place) inner_handler c.self.inside.handlers.items))
    ∙ ap frame_now c.self.view_is
