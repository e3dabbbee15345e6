use Rattle.std.proofs.Common.{subst}
use Rattle.std.proofs.lemmas.Result.{IfOk-weaker}
use Rattle.ld_union.specs.Findings.{AreFindings, plain_findings}
use Rattle.ld_union.specs.Usage.{bits_of}
use Rattle.ld_union.proofs.FoundLemmas.{of_each_from_exact}
use Rattle.ld_union.proofs.BitLemmas.{bits_from_used}
use Rattle.ld_union.proofs.NumberLemmas.{exact_from_found}
use Rattle.ld_book.proofs.book.Book.findings.Goals as goal

pub returns-clause-rows : goal.returns-clause-rows
returns-clause-rows c =
    let union = c.self.inside.union in
    let shows = c.self.invariant.shows in
    let found = c.self.inside.found in
    let sources = c.self.inside.listing.sources in
    let exact = exact_from_found union.classes (bits_of union.usage) sources (bits_from_used union.classes union.usage sources shows.used)
    union.dependencies shows.numbered shows.witnesses found c.self.invariant.exact in
    IfOk-weaker c.findings_of.result _ (λ findings. AreFindings c.args.self.now (plain_findings findings))
    (λ findings are. subst (λ all. AreFindings all (plain_findings findings)) c.self.view_is
    (are sources shows (of_each_from_exact sources union.classes found exact)))
    c.findings_of.ensures.rows
