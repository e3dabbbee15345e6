-- One more line is answered.
use Rattle.std.proofs.Common.{◌≡◌, ◌++◌, ◌∷◌, [], ℕ, List, Option, ap, get_or, map, sym, subst, ◌∙◌, rules}
use Rattle.std.specs.Prelude.{All}
use Rattle.std.proofs.lemmas.List.{map_push, take_more}
use Rattle.std.proofs.lemmas.List.Elements.{All-push}
use Rattle.ld_trace.specs.Sources.{plain}
use Rattle.ld_replay.specs.declared.before.Before.{Before}
use Rattle.ld_replay.specs.Before.{IsBefore}
use Rattle.ld_replay.proofs.replay.before_lines.Goals as goal

pub loop-line-preserved : goal.loop-line-preserved
loop-line-preserved c =
    let i = c.loop-line.line-index in
    let old = c.loop-line.all.items in
    let line = get_or c.args.lines.now i 0 in
    let found = c.in_ok-before.before in
    let pushed : c.push.new.self.items ≡ old ++ (line, found) ∷ [] = search rules in
    record {
      lines =
          ap (map (λ (one : ℕ × Option Before). one.0)) pushed
          ∙ map_push (λ (one : ℕ × Option Before). one.0) old (line, found)
          ∙ ap (λ ls. ls ++ line ∷ []) c.loop-line.invariant.lines
          ∙ sym (take_more c.args.lines.now i 0 c.loop-line-test.true);
      before =
          subst (All (λ (one : ℕ × Option Before). IsBefore (plain c.args.source) one.0 one.1)) (sym pushed)
          (All-push (λ (one : ℕ × Option Before). IsBefore (plain c.args.source) one.0 one.1) old (line, found) c.loop-line.invariant.before c.in_ok-before.ensures.before);
      replay = c.in_ok-before.ensures.replay;
    }
