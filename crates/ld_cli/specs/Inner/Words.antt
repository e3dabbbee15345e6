-- What the words of the command line may say, as clap's own definitions take it.
use Rattle.std.specs.Prelude.{[], ◌∷◌, Some, codes}
use Rattle.clap.specs.Words.{App, Rule, new_app, new_rule, with_rule}
use Rattle.clap.specs.declared.builder.action.ArgAction.TheVariants.{Set}
use Rattle.clap.specs.declared.builder.value_parser.ValueParser.TheVariants as value_parsers

-- `--workers N`, where N is a number from 1 to 16; without it, 4.
abbrev pub workers_argument : Rule
workers_argument = record (new_rule (codes "workers")) {
  long = Some (codes "workers");
  value_names = 1;
  action = Some Set;
  defaults = codes "4" ∷ [];
  parser = Some (value_parsers.Unsigned 1 16);
}

-- That and nothing else.
abbrev pub told_by_words : App
told_by_words = with_rule (new_app (codes "lockcheck")) workers_argument
