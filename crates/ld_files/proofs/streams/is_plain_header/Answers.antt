-- `trace`, bytes of a word and an LF are a header.
use Rattle.std.proofs.Common.{◌≡◌, ◌∷◌, ◌++◌, [], true, rules, codes, length, ◌<◌, ap, ◌∙◌}
use Rattle.std.specs.Char.{is_ascii_graphic}
use Rattle.std.specs.List.{list_all}
use Rattle.ld_trace.specs.Sources.{is_header}
use Rattle.ld_trace.proofs.HeadLemmas.{head-is}
use Rattle.ld_files.proofs.HeaderLemmas.{run-graphic}
use Rattle.ld_files.proofs.streams.is_plain_header.Goals as goal

pub returns : goal.returns
returns c =
    let label = c.in-Some-split_last.label.now in
    let whole : c.args.line.now ≡ codes "trace " ++ (label ++ 10 ∷ []) = search rules in
    let some : 0 < length label = search rules in
    let graphic : list_all is_ascii_graphic label ≡ true = search rules in
    ap is_header whole ∙ head-is label (run-graphic label some graphic)
