-- The argument reads its word as `workers_argument` says.
use Rattle.std.proofs.Common.{rules, ap, ap₂, Option, Some, None, ◌≡◌, ◌∙◌}
use Rattle.std.specs.Range.{range_inclusive_end, range_inclusive_start}
use Rattle.clap.specs.Words.{NarrowsTo, Rule, rule_of}
use Rattle.clap.specs.declared.builder.value_parser.ValueParser.{ValueParser}
use Rattle.clap.specs.declared.builder.value_parser.ValueParser.TheVariants as value_parsers
use Rattle.ld_cli.specs.Inner.Words.{workers_argument}
use Rattle.ld_cli.proofs.words.count_of_workers.Goals as goal

pub returns-clause-rule : goal.returns-clause-rule
returns-clause-rule c =
    let given = c.value_parser-2.ensures.given in
    let narrowed : NarrowsTo (value_parsers.Unsigned 0 18446744073709551615) (Some (range_inclusive_start c.new-2.result)) (Some (range_inclusive_end c.new-2.result)) c.range.result =
    rw c.value_parser.ensures at c.range.ensures in
    let made : c.range.result ≡ value_parsers.Unsigned 1 16 = rw (c.new-2.ensures.start, c.new-2.ensures.end) at narrowed in
    let parser_is : c.value_parser-2.result.value_parser ≡ Some (value_parsers.Unsigned 1 16) = given.1 ∙ ap Some (given.2 ∙ made) in
    let base_is : rule_of c.default_value.result ≡ record workers_argument { parser = None } = search rules in
    ap rule_of c.value_parser-2.ensures.others ∙ ap₂ (λ (r : Rule) (p : Option ValueParser). record r { parser = p }) base_is parser_is
