use Rattle.std.proofs.Common.{◌≡◌, ◌-◌, ◌≤◌, ◌+◌, Option, length, map, take, vec_len, vec_capacity}
use Rattle.ld_class.specs.Names.{AreDistinct}
use Rattle.ld_rules.specs.declared.outcome.Witness.{Witness}
use Rattle.ld_rules.specs.Usage.{Use, same_use}
use Rattle.ld_batch.specs.Batch.{named_use, witness_of}
use Rattle.ld_union.specs.Inner.Delta.{TellsBits}
use Rattle.ld_union.specs.Inner.Union.{AreUsed, with_first}
use Rattle.ld_union.specs.Usage.{bits_of}
use Rattle.ld_union.proofs.usage.add_usage.Given as goal

abbrev pub invariant-loop-seen : goal.invariant-loop-seen
invariant-loop-seen l = record {
  len : length l.rows ≡ length l.fn.rows;
  room : vec_len l.bits + (length l.batch.usage - l.seen-index) ≤ vec_capacity l.bits;
  told : TellsBits (bits_of l.fn.rows) (bits_of l.rows) l.bits.items;
  used : AreDistinct l.names → (first : Use → Option Witness) → AreUsed l.names l.fn.rows first
      → AreUsed l.names l.rows (with_first first (witness_of same_use (map (named_use l.batch.classes) (take l.seen-index l.batch.usage))));
}
