use Rattle.std.proofs.Common.{◌≡◌, All, map, take}
use Rattle.ld_overview.specs.Overview.{IsDependencyRow}
use Rattle.ld_overview.proofs.overview.named_rows.Given as goal

abbrev pub invariant-loop-dependency : goal.invariant-loop-dependency
invariant-loop-dependency l = record {
  each : All (IsDependencyRow l.book) l.rows.items;
  edges : map (λ row. row.edge) l.rows.items ≡ map (λ row. row.edge) (take l.dependency-index l.dependencies);
}
