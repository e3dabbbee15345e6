use Rattle.std.proofs.Common.{◌≡◌, ◌++◌, ◌∷◌, [], ◌∙◌, ℕ, None, OnOk, ap, length, subst}
use Rattle.std.specs.Option.{is_some}
use Rattle.std.specs.Prelude.{codes, filter, not, slice_index_or, ◌==◌}
use Rattle.ld_class.specs.Names.{PlainClass}
use Rattle.ld_overview.specs.OfBook.Dependencies.{usage_of_class}
use Rattle.ld_overview.specs.OfBook.OfUnion.declared.usage.UsageRow.{UsageRow}
use Rattle.ld_rules.specs.Union.{union_classes}
use Rattle.ld_rules.specs.Usage.Bit.{In, On}
use Rattle.ld_trace.specs.declared.event.State.TheVariants.{Hard, Soft}
use Rattle.ld_texts.specs.Stats.{classes_with, figure_lines}
use Rattle.ld_texts.proofs.StatsLemmas.{count-map}
use Rattle.ld_texts.proofs.stats.write_classes.Goals as goal

pub returns : goal.returns
returns c =
    let counted : (place : ℕ) → length (filter (λ (row : UsageRow). is_some (slice_index_or row.first place None)) c.usage_rows-usage.result.now)
    ≡ length (filter (λ class. is_some (slice_index_or (usage_of_class c.args.book.now class).first place None)) (union_classes c.args.book.now)) =
    λ place. ap (λ rows. length (filter (λ (row : UsageRow). is_some (slice_index_or row.first place None)) rows)) c.usage_rows-usage.ensures
    ∙ count-map (usage_of_class c.args.book.now) (λ (row : UsageRow). is_some (slice_index_or row.first place None)) (union_classes c.args.book.now) in
    let classes : c.len.result ≡ length (union_classes c.args.book.now) = c.len.ensures.len ∙ ap length c.classes-classes.ensures.all in
    let in_hard : c.classes_with.result ≡ classes_with c.args.book.now (In Hard) = c.classes_with.ensures ∙ counted 0 in
    let on_hard : c.classes_with-2.result ≡ classes_with c.args.book.now (On Hard) = c.classes_with-2.ensures ∙ counted 1 in
    let in_soft : c.classes_with-3.result ≡ classes_with c.args.book.now (In Soft) = c.classes_with-3.ensures ∙ counted 2 in
    let on_soft : c.classes_with-4.result ≡ classes_with c.args.book.now (On Soft) = c.classes_with-4.ensures ∙ counted 3 in
    let subs = c.subclasses.ensures ∙ ap (λ classes. length (filter (λ (class : PlainClass). not (class.sub == 0)) classes)) c.classes-classes.ensures.all in
    subst (λ text. OnOk c.write_figures.result (c.write_figures.new.text.items ≡ c.args.text.now.items ++ text))
    (λ t. figure_lines ((codes "classes", classes t) ∷ (codes "subclasses", subs t) ∷ (codes "classes-in-hard", in_hard t)
    ∷ (codes "classes-on-hard", on_hard t) ∷ (codes "classes-in-soft", in_soft t) ∷ (codes "classes-on-soft", on_soft t) ∷ []))
    c.write_figures.ensures
