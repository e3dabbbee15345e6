-- The lock that goes is the last under the key, as it lies in memory.
use Rattle.std.proofs.Common.{ap, refl, remove, sym, ◌∙◌}
use Rattle.ld_trace.specs.Events.{plain_lock}
use Rattle.ld_rules.specs.Inner.Scanned.{remove_last}
use Rattle.ld_rules.proofs.OpenLemmas.{remove_last-none}
use Rattle.ld_replay.specs.Inner.Task.{is_under}
use Rattle.ld_replay.proofs.TaskLemmas.{without}
use Rattle.ld_replay.proofs.task.Task.release.Goals as goal

pub returns-in-Some : goal.returns-in-Some
returns-in-Some c =
    without _ c.args.self.now c.self.view_is c.self.inside.holds.items c.remove.new.self.items c.frame-frame.result (plain_lock c.args.lock) refl c.frame-frame.ensures
    (c.remove.ensures.items ∙ ap (λ hs. remove hs c.in-Some.place) (sym c.deref.ensures.value) ∙ c.in-Some.ensures.last ∙ ap (remove_last (is_under c.frame-frame.result (plain_lock c.args.lock))) c.deref.ensures.value)

pub returns-in_default : goal.returns-in_default
returns-in_default c =
    sym c.self.view_is
    ∙ without _ c.args.self.now c.self.view_is c.self.inside.holds.items c.self.inside.holds.items c.frame-frame.result (plain_lock c.args.lock) refl c.frame-frame.ensures
    (sym (ap (remove_last (is_under c.frame-frame.result (plain_lock c.args.lock))) (sym c.deref.ensures.value)
    ∙ remove_last-none (is_under c.frame-frame.result (plain_lock c.args.lock)) c.deref.result.now c.in_default.ensures.none ∙ c.deref.ensures.value))
