use Rattle.std.proofs.Common.{◌≡◌, All, map, take}
use Rattle.ld_class.specs.Names.{plain_class}
use Rattle.ld_rules.specs.Union.{union_classes}
use Rattle.ld_overview.specs.Overview.{IsClassRow}
use Rattle.ld_overview.proofs.overview.numbered_rows.Given as goal

abbrev pub invariant-loop-number : goal.invariant-loop-number
invariant-loop-number l = record {
  each : All (IsClassRow l.book) l.rows.items;
  names : map (λ row. plain_class row.class) l.rows.items ≡ take l.number (union_classes l.book);
}
