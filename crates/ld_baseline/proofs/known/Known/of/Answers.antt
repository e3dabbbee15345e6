-- One line more is looked at.
use Rattle.std.proofs.Common.{◌≡◌, ◌∙◌, ◌||◌, true, cond, ap, map, sym}
use Rattle.std.proofs.Math.Bool.{or-false}
use Rattle.std.specs.List.{list_any}
use Rattle.ld_trace.specs.Lines.{text_of}
use Rattle.ld_baseline.specs.declared.said.Said.{Said}
use Rattle.ld_baseline.specs.Said.{PlainSaid, plain_said, said_by, same_said}
use Rattle.ld_baseline.specs.Match.{matches}
use Rattle.ld_baseline.specs.Known.{has_said, is_that}
use Rattle.ld_baseline.proofs.KnownLemmas.{list_any-map}
use Rattle.ld_baseline.proofs.MatchLemmas.{first_more, list_any-push, plain_matches, second_more}
use Rattle.ld_baseline.proofs.known.Known.of.Goals as goal

pub loop-line-preserved-in_ok-insert : goal.loop-line-preserved-in_ok-insert
loop-line-preserved-in_ok-insert c = λ said.
    let key : Said = record {
      kind = record { ref_ptr = (0, 0); now = said.kind };
      state = record { ref_ptr = (0, 0); now = said.state };
      from = record { ref_ptr = (0, 0); now = said.from };
      to = record { ref_ptr = (0, 0); now = said.to };
    } in
    let one = plain_said c.in-Some-said_by.one in
    let old = list_any (λ key. same_said said (plain_said key)) c.loop-line.plain.keys in
    let patterns = list_any (λ pattern. matches (plain_said pattern) said) c.loop-line.patterns.items in
    let others = has_said c.in-Some.after.now said in
    let says = c.in-Some-said_by.ensures ∙ ap said_by c.text.ensures in
    let after : ((list_any (λ key. same_said said (plain_said key)) c.insert.new.self.keys || patterns) || others)
    ≡ ((cond (same_said one said) true old || patterns) || others) =
    ap (λ b. (b || patterns) || others) (c.in_ok-insert.ensures.updates.0 key) in
    after
    ∙ first_more (same_said one said) old patterns others
    ∙ ap (λ t. (old || patterns) || (t || others)) (sym (plain_matches one said (sym c.has_star.ensures ∙ c.if-has_star.false)))
    ∙ ap (λ it. (old || patterns) || (is_that said it || others)) says
    ∙ sym (ap (λ all. (old || patterns) || list_any (λ line. is_that said (said_by (text_of line))) all) c.in-Some.ensures.first)
    ∙ c.loop-line.invariant said

pub loop-line-preserved-in_ok-push : goal.loop-line-preserved-in_ok-push
loop-line-preserved-in_ok-push c = λ said.
    let one = plain_said c.in-Some-said_by.one in
    let matching = λ (pattern : Said). matches (plain_said pattern) said in
    let old = list_any (λ key. same_said said (plain_said key)) c.loop-line.plain.keys in
    let patterns = list_any (λ pattern. matches (plain_said pattern) said) c.loop-line.patterns.items in
    let others = has_said c.in-Some.after.now said in
    let says = c.in-Some-said_by.ensures ∙ ap said_by c.text.ensures in
    ap (λ all. (old || list_any matching all) || others) c.in_ok-push.ensures.items
    ∙ ap (λ b. (old || b) || others) (list_any-push matching c.loop-line.patterns.items c.in-Some-said_by.one)
    ∙ second_more (matches one said) old patterns others
    ∙ ap (λ it. (old || patterns) || (is_that said it || others)) says
    ∙ sym (ap (λ all. (old || patterns) || list_any (λ line. is_that said (said_by (text_of line))) all) c.in-Some.ensures.first)
    ∙ c.loop-line.invariant said

pub returns : goal.returns
returns c = λ said.
    let old = list_any (λ key. same_said said (plain_said key)) c.loop-line.plain.keys in
    let patterns = list_any (λ pattern. matches (plain_said pattern) said) c.loop-line.patterns.items in
    ap (λ b. b || list_any (λ (pattern : PlainSaid). matches pattern said) (map plain_said c.loop-line.patterns.items)) (list_any-map plain_said (same_said said) c.loop-line.plain.keys)
    ∙ ap (λ b. old || b) (list_any-map plain_said (λ pattern. matches pattern said) c.loop-line.patterns.items)
    ∙ sym (or-false (old || patterns))
    ∙ sym (ap (λ rest. (old || patterns) || has_said rest said) c.in_default.ensures.first)
    ∙ c.loop-line.invariant said
