-- What is new doesn't depend on the order of the traces.
use Rattle.std.proofs.Common.{◌≡◌, ◌∙◌, ℕ, List, ap}
use Rattle.std.specs.List.{list_any}
use Rattle.std.specs.List.Sorted.{IsPermutation}
use Rattle.ld_trace.specs.Sources.{PlainSource}
use Rattle.ld_check.specs.OfReport.OfBook.declared.listing.Totals.{Totals}
use Rattle.ld_check.proofs.OfReport.OfBook.PermutedLemmas.{totals-permuted}
use Rattle.ld_check.specs.OfReport.declared.verdict.Verdict.{Verdict}
use Rattle.ld_check.proofs.OfReport.Permuted.{report-permuted}
use Rattle.ld_baseline.specs.News.{count_new}
use Rattle.ld_places.specs.Places.{PlainFile}
use Rattle.ld_places.specs.ShownPlaces.{has_origin}
use Rattle.lockgraph.specs.declared.news.Telling.{Telling}
use Rattle.lockgraph.specs.declared.news.Telling.TheVariants as tellings
use Rattle.lockgraph.specs.News.{ComesToNew, IsFixedOf, IsNewsOf, IsNewsWith, IsToldOf, IsToldWith, verdict_of_new}
use Rattle.lockgraph.specs.Shown.{verdict_of_read}

pub news-permuted : (sources listed in_order : List PlainSource) → IsPermutation sources listed → in_order ≡ sources
    → (files : List PlainFile) (known text : List ℕ) (verdict : Verdict) → IsNewsWith files in_order listed known text verdict → IsNewsOf files sources known text verdict
news-permuted sources listed in_order moved ordered files known text verdict news = record {
  report = news.report;
  remarks = news.remarks;
  is = report-permuted sources listed moved news.report news.is;
  text_is = news.text_is;
  few = λ one none. news.few one (ap (list_any has_origin) ordered ∙ none);
  verdict_is = news.verdict_is ∙ ap (λ (t : Totals). verdict_of_new (count_new news.report known) t.refused) (totals-permuted sources listed moved);
}

pub comes-permuted : (sources listed : List PlainSource) → IsPermutation sources listed
    → (known : List ℕ) (verdict : Verdict) → ComesToNew listed known verdict → ComesToNew sources known verdict
comes-permuted sources listed moved known verdict comes = record {
  report = comes.report;
  is = report-permuted sources listed moved comes.report comes.is;
  verdict_is = comes.verdict_is ∙ ap (λ (t : Totals). verdict_of_new (count_new comes.report known) t.refused) (totals-permuted sources listed moved);
}

pub fixed-permuted : (sources listed : List PlainSource) → IsPermutation sources listed
    → (known text : List ℕ) (verdict : Verdict) → IsFixedOf listed known text verdict → IsFixedOf sources known text verdict
fixed-permuted sources listed moved known text verdict fixed = record {
  report = fixed.report;
  is = report-permuted sources listed moved fixed.report fixed.is;
  text_is = fixed.text_is;
  verdict_is = fixed.verdict_is ∙ ap (λ (t : Totals). verdict_of_read t.refused) (totals-permuted sources listed moved);
}

pub told-permuted : (telling : Telling) (sources listed in_order : List PlainSource) → IsPermutation sources listed → in_order ≡ sources
    → (files : List PlainFile) (known text : List ℕ) (verdict : Verdict) → IsToldWith telling files in_order listed known text verdict → IsToldOf telling files sources known text verdict
told-permuted tellings.New sources listed in_order moved ordered files known text verdict news = news-permuted sources listed in_order moved ordered files known text verdict news
told-permuted tellings.Gone sources listed in_order moved ordered files known text verdict fixed = fixed-permuted sources listed moved known text verdict fixed
