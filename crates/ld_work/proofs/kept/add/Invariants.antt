use Rattle.ld_trace.specs.Sources.{plain}
use Rattle.ld_work.specs.Inner.Seen.{entry_of}
use Rattle.ld_work.proofs.kept.add.Given as goal

abbrev pub ghosts-add_noted : goal.ghosts-add_noted
ghosts-add_noted g a = record { entry = entry_of (plain a._source) }
