use Rattle.std.proofs.Common.{Option, ap, sym, ◌∙◌}
use Rattle.std.specs.Option.{option_map}
use Rattle.ld_class.specs.Names.{plain_class}
use Rattle.ld_class.specs.declared.names.ClassName.{ClassName}
use Rattle.ld_texts.specs.List.{is_under}
use Rattle.ld_texts.proofs.ReaderLemmas.{is_under-told}
use Rattle.ld_texts.proofs.list.is_under.Goals as goal

pub returns-in-Some : goal.returns-in-Some
returns-in-Some c =
    is_under-told (plain_class c.in-Some.above) (plain_class c.args.class) c.has_readers.result c.has_readers.ensures
    ∙ ap (λ (above : Option ClassName). is_under (option_map plain_class above) (plain_class c.args.class)) (sym c.in-Some.is)
