-- What `retain` leaves are the locks of the frame.
use Rattle.std.proofs.Common.{◌≡◌, ap, filter, map, refl, rules, ◌∙◌}
use Rattle.std.proofs.lemmas.Fn.{filter_same}
use Rattle.ld_trace.specs.Events.{plain_event}
use Rattle.ld_rules.specs.Frames.{frame_of, task_of}
use Rattle.ld_rules.specs.Held.{same_frame}
use Rattle.ld_rules.specs.Outcome.{events}
use Rattle.ld_replay.specs.declared.hold.Hold.{Hold}
use Rattle.ld_replay.specs.HeldAt.{held_lines_in, plain_hold}
use Rattle.ld_replay.proofs.TaskLemmas.{handlers-at, held-is, lines-at}
use Rattle.ld_replay.proofs.task.Task.at.Goals as goal

pub returns-clause-open : goal.returns-clause-open
returns-clause-open c past is =
    let name = task_of (plain_event c.args.event) in
    let kept : c.retain.new.self.items ≡ filter (λ (h : Hold). same_frame c.frame-frame.result h.frame) c.self.inside.holds.items =
    filter_same _ (λ (h : Hold). same_frame c.frame-frame.result h.frame) _ (λ x b f' k. search rules) _ _ c.retain.ensures.filtered in
    let lines : map (plain_hold name) c.retain.new.self.items ≡ held_lines_in past name (frame_of (events past) name) =
    lines-at past _ c.args.self c.self.view_is is name c.requires c.self.inside.holds.items c.retain.new.self.items c.frame-frame.result refl c.frame-frame.ensures kept in
    record {
      held = ap (map (λ one. one.what)) lines ∙ held-is past name (frame_of (events past) name);
      lines = lines;
      handlers = handlers-at past _ c.args.self c.self.view_is is name c.requires c.self.inside.handlers.items refl;
    }
