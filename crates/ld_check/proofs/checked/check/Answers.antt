use Rattle.std.proofs.Common.{◌∙◌, Err, ap}
use Rattle.std.proofs.lemmas.Result.{err_from_is_err_and}
use Rattle.ld_check.proofs.StreamFaults.{told_as_it_is}
use Rattle.ld_check.proofs.checked.check.Goals as goal

pub returns-in_err-sources-clause-fault : goal.returns-in_err-sources-clause-fault
returns-in_err-sources-clause-fault g c =
    let answer = err_from_is_err_and c.from_residual.result c.from_residual.ensures.1 in
    told_as_it_is c.args.bytes.now c.in_err-sources.field-0.0 c.split.result c.from_residual.result c.split.ensures.fault c.in_err-sources.was (answer.1 ∙ ap Err answer.2)
