-- What is noted are the witnesses of the rows, which are those of all dependencies and bits.
use Rattle.std.proofs.Common.{◌∙◌, ◌||◌, ◌==◌, map, nat_eq}
use Rattle.std.specs.List.{list_any}
use Rattle.ld_rules.specs.Union.{union_classes}
use Rattle.ld_book.specs.Dependencies.{usage_of_class}
use Rattle.ld_book.specs.OfUnion.declared.dependencies.Witnessed.{Witnessed}
use Rattle.ld_book.specs.OfUnion.declared.usage.UsageRow.{UsageRow}
use Rattle.ld_reduce.specs.Reduction.{is_in}
use Rattle.ld_reduce.proofs.BookLemmas.{firsts-exact}
use Rattle.ld_reduce.proofs.book.firsts_of.Goals as goal

pub returns : goal.returns
returns c = λ number.
    firsts-exact c.args.book.now number c.classes.ensures.used c.dependencies.result.now c.dependencies.ensures _
    (c.in_ok-note_usage.ensures number
    ∙ (λ i. list_any (λ (row : UsageRow). list_any (is_in number) row.first) (c.usage_rows.ensures i) || c.in_ok-note_dependencies.ensures number i)
    ∙ (λ i. list_any (λ (row : UsageRow). list_any (is_in number) row.first) (map (usage_of_class c.args.book.now) (union_classes c.args.book.now)) || (list_any (λ (row : Witnessed). number == row.first.number) c.dependencies.result.now || list_any (nat_eq number) (c.new-firsts.ensures i))))
