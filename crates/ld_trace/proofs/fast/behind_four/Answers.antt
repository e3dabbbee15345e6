-- The first four bytes and the others are all of them.
use Rattle.std.proofs.Common.{◌++◌, sym, ◌∙◌}
use Rattle.std.proofs.lemmas.List.{take-append-drop}
use Rattle.ld_trace.proofs.fast.behind_four.Goals as goal

pub returns : goal.returns
returns c =
    let cut = c.in_ok-first.ensures.cases in
    sym (take-append-drop 4 c.args.bytes.now)
    ∙ (λ i. (sym cut.0 ∙ c.if-not-same_four.ensures) i ++ sym cut.1 i)
