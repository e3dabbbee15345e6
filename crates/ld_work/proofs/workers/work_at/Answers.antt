use Rattle.std.proofs.Common.{◌∙◌, sym}
use Rattle.std.proofs.lemmas.Result.{IfOk-weaker}
use Rattle.ld_work.proofs.workers.work_at.Goals as goal

-- as many came back as the desk was made with
pub gathered-requires : goal.gathered-requires
gathered-requires g c =
    IfOk-weaker c.feed-fed.result _ _ (λ feeders same. same ∙ c.in_ok-desk.ensures.count ∙ sym c.in_ok-desk.ensures.desk) c.feed-fed.ensures

-- what the desk may list are the sources
pub settled-requires-clause-among : goal.settled-requires-clause-among
settled-requires-clause-among g c k d within = c.requires.only _ (c.in_ok-book.ensures k d within)
