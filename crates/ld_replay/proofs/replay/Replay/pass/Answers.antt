-- The line takes each task one position further.
use Rattle.std.proofs.Common.{◌≡◌, ◌∙◌, ap, sym, rules, Ok, Err, None, Some}
use Rattle.ld_trace.specs.Lines.{text_of}
use Rattle.ld_trace.specs.Events.{answer_seen, plain_event, said_by}
use Rattle.ld_replay.specs.Inner.Replay.{event_of}
use Rattle.ld_replay.proofs.ReplayLemmas.{replay-event, replay-nothing}
use Rattle.ld_replay.proofs.replay.Replay.pass.Goals as goal

pub returns-in_ok-step-in-Ok-Some-clause-replay : goal.returns-in_ok-step-in-Ok-Some-clause-replay
returns-in_ok-step-in-Ok-Some-clause-replay c source first is =
    let says : said_by (text_of first.line) ≡ Ok (Some (plain_event c.in-Ok-Some.event)) = search rules in
    replay-event source c.args.self.now.number c.args.self.now.rest.now c.args.self.now.place c.args.self.now.tasks is
    first.line c.args.others.now first.first (plain_event c.in-Ok-Some.event) says _ c.in_ok-step-in-Ok-Some.ensures

pub returns-in-Ok-None-clause-replay : goal.returns-in-Ok-None-clause-replay
returns-in-Ok-None-clause-replay c source first is =
    let says : said_by (text_of first.line) ≡ Ok None = search rules in
    replay-nothing source c.args.self.now.number c.args.self.now.rest.now c.args.self.now.place c.args.self.now.tasks is
    first.line c.args.others.now first.first (ap event_of says)

pub returns-in-Err-clause-replay : goal.returns-in-Err-clause-replay
returns-in-Err-clause-replay c source first is =
    replay-nothing source c.args.self.now.number c.args.self.now.rest.now c.args.self.now.place c.args.self.now.tasks is
    first.line c.args.others.now first.first (ap event_of (first.says ∙ ap answer_seen c.in-Err.is))
