-- One line more is looked at.
use Rattle.std.proofs.Common.{◌≡◌, ◌∙◌, ◌||◌, Bool, true, false, if◌then◌else◌, cond, ap, map, sym, refl}
use Rattle.std.proofs.Math.Bool.{or-false}
use Rattle.std.specs.List.{list_any}
use Rattle.ld_trace.specs.Lines.{text_of}
use Rattle.ld_baseline.specs.declared.said.Said.{Said}
use Rattle.ld_baseline.specs.Said.{PlainSaid, plain_said, said_by, same_said}
use Rattle.ld_baseline.specs.Match.{has_star, matches}
use Rattle.ld_baseline.specs.Gone.{is_one_of, is_there}
use Rattle.ld_baseline.proofs.KnownLemmas.{list_any-map, one_more}
use Rattle.ld_baseline.proofs.MatchLemmas.{last_more, list_any-push, plain_matches, same_said-symm}
use Rattle.ld_baseline.proofs.violations.Violations.of.Goals as goal

pub loop-line-preserved-in_ok-push : goal.loop-line-preserved-in_ok-push
loop-line-preserved-in_ok-push c =
    let one = plain_said c.in-Some-said_by.one in
    let says = c.in-Some-said_by.ensures ∙ ap said_by c.text.ensures in
    record {
      exact = λ known plain.
          let key : Said = record {
            kind = record { ref_ptr = (0, 0); now = known.kind };
            state = record { ref_ptr = (0, 0); now = known.state };
            from = record { ref_ptr = (0, 0); now = known.from };
            to = record { ref_ptr = (0, 0); now = known.to };
          } in
          let old = list_any (λ key. same_said known (plain_said key)) c.loop-line.exact.keys in
          let others = is_there c.in-Some.after.now known in
          let after : (list_any (λ key. same_said known (plain_said key)) c.insert.new.self.keys || others)
          ≡ (cond (same_said one known) true old || others) =
          ap (λ b. b || others) (c.in_ok-insert.ensures.updates.0 key) in
          after
          ∙ one_more (same_said one known) old others
          ∙ ap (λ t. old || (t || others)) (same_said-symm one known ∙ sym (plain_matches known one plain))
          ∙ ap (λ it. old || (is_one_of known it || others)) says
          ∙ sym (ap (λ all. old || list_any (λ line. is_one_of known (said_by (text_of line))) all) c.in-Some.ensures.first)
          ∙ c.loop-line.invariant.exact known plain;
      all = λ known.
          let matching = λ (said : Said). matches known (plain_said said) in
          let old = list_any (λ said. matches known (plain_said said)) c.loop-line.all.items in
          let others = is_there c.in-Some.after.now known in
          ap (λ all. list_any matching all || others) c.in_ok-push.ensures.items
          ∙ ap (λ b. b || others) (list_any-push matching c.loop-line.all.items c.in-Some-said_by.one)
          ∙ last_more (matches known one) old others
          ∙ ap (λ it. old || (is_one_of known it || others)) says
          ∙ sym (ap (λ all. old || list_any (λ line. is_one_of known (said_by (text_of line))) all) c.in-Some.ensures.first)
          ∙ c.loop-line.invariant.all known;
    }

pub returns : goal.returns
returns c = λ known. by known (has_star known) refl
  where
    by : (known : PlainSaid) (star : Bool) → has_star known ≡ star
        → (if star then list_any (matches known) (map plain_said c.loop-line.all.items) else list_any (same_said known) (map plain_said c.loop-line.exact.keys))
        ≡ is_there c.args.report.now known
    by known true h =
        let old = list_any (λ said. matches known (plain_said said)) c.loop-line.all.items in
        list_any-map plain_said (matches known) c.loop-line.all.items
        ∙ sym (or-false old)
        ∙ sym (ap (λ rest. old || is_there rest known) c.in_default.ensures.first)
        ∙ c.loop-line.invariant.all known
    by known false h =
        let old = list_any (λ key. same_said known (plain_said key)) c.loop-line.exact.keys in
        list_any-map plain_said (same_said known) c.loop-line.exact.keys
        ∙ sym (or-false old)
        ∙ sym (ap (λ rest. old || is_there rest known) c.in_default.ensures.first)
        ∙ c.loop-line.invariant.exact known h
