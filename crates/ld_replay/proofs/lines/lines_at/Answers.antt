-- One more line is found.
use Rattle.std.proofs.Common.{◌≡◌, ◌++◌, ◌∷◌, [], ℕ, List, Option, ap, get_or, map, sym, subst, ◌∙◌, rules}
use Rattle.std.specs.Borrow.{Bor}
use Rattle.std.specs.Prelude.{All}
use Rattle.std.proofs.lemmas.List.{map_push, take_more}
use Rattle.std.proofs.lemmas.List.Elements.{All-push}
use Rattle.ld_trace.specs.Sources.{plain}
use Rattle.ld_replay.specs.Before.{IsLine}
use Rattle.ld_replay.proofs.lines.lines_at.Goals as goal

pub loop-number-preserved : goal.loop-number-preserved
loop-number-preserved c =
    let i = c.loop-number.number-index in
    let old = c.loop-number.found.items in
    let number = get_or c.args.numbers.now i 0 in
    let line = c.line_of-line.result in
    let pushed : c.push.new.self.items ≡ old ++ (number, line) ∷ [] = search rules in
    record {
      numbers =
          ap (map (λ (one : ℕ × Option (Bor (List ℕ))). one.0)) pushed
          ∙ map_push (λ (one : ℕ × Option (Bor (List ℕ))). one.0) old (number, line)
          ∙ ap (λ ls. ls ++ number ∷ []) c.loop-number.invariant.numbers
          ∙ sym (take_more c.args.numbers.now i 0 c.loop-number-test.true);
      lines =
          subst (All (λ (one : ℕ × Option (Bor (List ℕ))). IsLine (plain c.args.source) one.0 one.1)) (sym pushed)
          (All-push (λ (one : ℕ × Option (Bor (List ℕ))). IsLine (plain c.args.source) one.0 one.1) old (number, line) c.loop-number.invariant.lines c.line_of-line.ensures.line);
      reading = c.line_of-line.ensures.reading;
    }
