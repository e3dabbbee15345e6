-- The first eight bytes and the others are all of them.
use Rattle.std.proofs.Common.{◌++◌, sym, ◌∙◌}
use Rattle.std.proofs.lemmas.List.{take-append-drop}
use Rattle.ld_trace.proofs.fast.behind_eight.Goals as goal

pub returns : goal.returns
returns c =
    let cut = c.in_ok-first.ensures.cases in
    sym (take-append-drop 8 c.args.bytes.now)
    ∙ (λ i. (sym cut.0 ∙ c.if-not-same_eight.ensures) i ++ sym cut.1 i)
