-- The bits of the bytes behind some are those above them.
use Rattle.std.proofs.Common.{arith}
use Rattle.std.proofs.lemmas.List.{length-drop}
use Rattle.std.specs.Char.{is_ascii_graphic}
use Rattle.std.specs.Prelude.{not}
use Rattle.ld_trace.specs.Inner.Front.{in_name}
use Rattle.ld_trace.proofs.VectorLemmas.{mask-behind}
use Rattle.ld_trace.proofs.front.Ends.behind.Goals as goal

pub returns : goal.returns
returns c bytes are = record {
  few = omega (arith, are.few);
  within = omega (arith, are.within, length-drop c.args.count bytes);
  words = mask-behind (λ b. not (is_ascii_graphic b)) bytes c.args.self.seen c.args.count c.args.self.words (omega arith) are.words;
  names = mask-behind (λ b. not (in_name b)) bytes c.args.self.seen c.args.count c.args.self.names (omega arith) are.names;
}
