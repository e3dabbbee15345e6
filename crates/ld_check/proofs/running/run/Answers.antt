-- What was written before a write failed is a first part of the report.
use Rattle.std.proofs.Common.{subst}
use Rattle.ld_io.specs.Transfer.{AppendsPart}
use Rattle.ld_check.proofs.running.run.Goals as goal

pub returns-clause-part : goal.returns-clause-part
returns-clause-part g c =
    let read = c.in_ok-report.ensures.ok in
    λ _. record {
      bytes = read.bytes;
      read = read.read;
      sound = read.sound;
      holds = (
        c.in_ok-report.report.text.items,
        read.holds.0,
        subst (AppendsPart (g.O.Output.held c.args.output.now) (g.O.Output.held c.send.new.output)) c.deref.ensures.value c.in-Err.ensures.part,
      );
    }
