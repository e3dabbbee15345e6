use Rattle.std.proofs.Common.{rules, ◌≡◌, ◌∙◌, MatchOption, None, ap, get_or, subst, sym}
use Rattle.ld_class.specs.Names.{plain_class}
use Rattle.ld_class.specs.Usage.{marks_of}
use Rattle.ld_rules.specs.Union.{use_witness}
use Rattle.ld_rules.specs.Usage.{bit_of}
use Rattle.ld_union.specs.declared.usage.UsageRow.{UsageRow}
use Rattle.ld_union.specs.Inner.ByName.{class_name}
use Rattle.ld_union.specs.Inner.Rows.{IsNoted}
use Rattle.ld_union.specs.Inner.Union.{of_class}
use Rattle.ld_union.specs.Usage.{row_of}
use Rattle.ld_union.specs.Violations.{HasBit}
use Rattle.ld_union.proofs.UsageLemmas.{row_at}
use Rattle.ld_union.proofs.WitnessLemmas.{no_witness}
use Rattle.ld_union.proofs.findings.used.noted.Goals as goal

pub returns-in_err-witness : goal.returns-in_err-witness
returns-in_err-witness c sources shows =
    let union = c.args.union.now in
    let class = class_name union.classes c.args.class in
    let first = of_class (use_witness sources) class in
    let usage : (d : UsageRow) → get_or c.usage.result.now c.args.class d ≡ row_of first = λ d.
    ap (λ rows. get_or rows c.args.class d) c.usage.ensures.same ∙ row_at union.classes union.usage (use_witness sources) shows.used c.args.class d c.requires.class in
    let none : c.from_residual.result ≡ None = search rules in
    subst (λ row. MatchOption row (¬ HasBit sources class (bit_of c.args.bit)) (λ n. IsNoted sources class (bit_of c.args.bit) (plain_class n.name) n.marks n.at)) (sym none)
    (no_witness (first (bit_of c.args.bit)) (c.in_err-witness.ensures.first first (usage _)))

pub returns : goal.returns
returns c sources shows =
    let union = c.args.union.now in
    let first = of_class (use_witness sources) (class_name union.classes c.args.class) in
    let usage : (d : UsageRow) → get_or c.usage.result.now c.args.class d ≡ row_of first = λ d.
    ap (λ rows. get_or rows c.args.class d) c.usage.ensures.same ∙ row_at union.classes union.usage (use_witness sources) shows.used c.args.class d c.requires.class in
    record {
      same = c.name.ensures.name ∙ ap (λ names. class_name names c.args.class) c.classes.ensures.same;
      shown = c.marks.ensures ∙ ap (λ (row : UsageRow). marks_of row.bits) (usage _);
      first = sym (c.in_ok-witness.ensures.first first (usage _));
    }
