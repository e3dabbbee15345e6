use Rattle.std.proofs.Common.{◌∙◌, sym}
use Rattle.std.proofs.lemmas.Result.{IfOk-weaker}
use Rattle.ld_work.proofs.coming.work_on_at.Goals as goal

-- as many came back as the desk was made with
pub gathered-requires : goal.gathered-requires
gathered-requires g c =
    IfOk-weaker c.feed_on-fed.result _ _ (λ feeders same. same ∙ c.in_ok-desk.ensures.count ∙ sym c.in_ok-desk.ensures.desk) c.feed_on-fed.ensures
