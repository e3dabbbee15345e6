-- A frame around another one, without where its line lies in memory.
use Rattle.ld_cut.specs.declared.task.Around.{Around}
use Rattle.ld_cut.specs.Inner.Kept.{KeptAround}

abbrev pub kept_around : Around → KeptAround
kept_around around = record { frame = around.frame; line = around.line.now; state = around.state }
