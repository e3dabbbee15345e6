-- What goes is the latest acquisition of the lock, if there is one.
use Rattle.std.proofs.Common.{◌≡◌, ◌∙◌, List, map, remove, ap, sym}
use Rattle.std.specs.Option.{option_map}
use Rattle.ld_trace.specs.Events.{plain_lock}
use Rattle.ld_rules.specs.Inner.Scanned.{remove_last}
use Rattle.ld_rules.proofs.OpenLemmas.{remove_last-none}
use Rattle.ld_rules.proofs.RemoveLemmas.{map-remove_last}
use Rattle.ld_cut.specs.declared.task.Hold.{Hold}
use Rattle.ld_cut.specs.Inner.Kept.{KeptFrame, KeptHold, is_hold_of, is_of, kept_begun, kept_flag, kept_hold, without}
use Rattle.ld_cut.proofs.task.Frame.release.Goals as goal

pub returns-in-Some : goal.returns-in-Some
returns-in-Some c =
    let lock = plain_lock c.args.lock in
    let inside = c.self.inside in
    let f : List KeptHold → KeptFrame = λ held. record { begun = option_map kept_begun inside.begun; hard = option_map kept_flag inside.hard; soft = option_map kept_flag inside.soft; held = held } in
    let left : c.remove.new.self.items ≡ remove_last (is_hold_of lock) inside.held.items =
    c.remove.ensures.items ∙ ap (λ (hs : List Hold). remove hs c.in-Some.place) (sym c.deref.ensures.value) ∙ c.in-Some.ensures.last ∙ ap (remove_last (is_hold_of lock)) c.deref.ensures.value in
    ap f (ap (map kept_hold) left ∙ map-remove_last kept_hold (is_of lock) inside.held.items) ∙ ap (without lock) c.self.view_is

pub returns-in_default : goal.returns-in_default
returns-in_default c =
    let lock = plain_lock c.args.lock in
    let inside = c.self.inside in
    let f : List KeptHold → KeptFrame = λ held. record { begun = option_map kept_begun inside.begun; hard = option_map kept_flag inside.hard; soft = option_map kept_flag inside.soft; held = held } in
    let all : inside.held.items ≡ remove_last (is_hold_of lock) inside.held.items =
    sym c.deref.ensures.value ∙ sym (remove_last-none (is_hold_of lock) c.deref.result.now c.in_default.ensures.none) ∙ ap (remove_last (is_hold_of lock)) c.deref.ensures.value in
    sym c.self.view_is ∙ ap f (ap (map kept_hold) all ∙ map-remove_last kept_hold (is_of lock) inside.held.items) ∙ ap (without lock) c.self.view_is
