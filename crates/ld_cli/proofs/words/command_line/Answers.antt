-- The command reads words as `told_by_words` says.
use Rattle.std.proofs.Common.{rules, ap₂, codes, ◌≡◌, ◌∙◌}
use Rattle.std.proofs.lemmas.Result.{IfOk-weaker}
use Rattle.clap.specs.Words.{app_of, new_app, with_rule}
use Rattle.ld_cli.proofs.words.command_line.Goals as goal

pub returns : goal.returns
returns c =
    let told : app_of c.after_help.result ≡ new_app (codes "lockcheck") = search rules in
    IfOk-weaker c.arg.result _ _ (λ command added. added.shape (search rules) ∙ ap₂ with_rule told c.count_of_workers.ensures.rule) c.arg.ensures
