-- A trace that begins on top of what a scan has.
use Rattle.std.proofs.Common.{◌+◌, ◌≤◌, [], All, length, refl, arith}
use Rattle.std.proofs.lemmas.List.{take_all}
use Rattle.ld_class.specs.Names.{AreDistinct}
use Rattle.ld_class.specs.declared.names.TheConstants.{MOST_NAMES}
use Rattle.ld_rules.specs.declared.outcome.TheConstants.{MOST_CLASSES}
use Rattle.ld_tables.specs.Inner.Edges.{AreApart}
use Rattle.ld_facts.specs.declared.scan.Scan.{Scan}
use Rattle.ld_facts.specs.Named.{IsBetween, IsUse}
use Rattle.ld_facts.specs.Inner.Scan.{IsAt, begun, start_of}

-- it is at what the scan has, before its first event
pub begun-at : (scan : Scan) → AreDistinct scan.classes → AreApart scan.locks.edges → All (IsBetween scan.classes) scan.locks.edges → All (IsUse scan.classes) scan.uses →
    length scan.classes + MOST_CLASSES ≤ MOST_NAMES → IsAt (start_of scan) [] (begun scan)
begun-at scan distinct once within used room = record {
  clean = refl;
  tasks = refl;
  names = refl;
  distinct = distinct;
  own = refl;
  few_tasks = omega arith;
  few_classes = omega arith;
  many = (refl, refl, λ k d below. absurd (omega arith), omega (arith, room));
  each = λ id name at. absurd (omega (arith, at.0));
  shallow = λ id. omega arith;
  edges = λ test. refl;
  first = take_all (length (start_of scan).edges) (start_of scan).edges (omega arith);
  once = once;
  within = within;
  uses = refl;
  used = used;
}
