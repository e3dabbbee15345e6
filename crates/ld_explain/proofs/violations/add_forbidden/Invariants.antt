use Rattle.std.specs.Prelude.{◌≡◌, ◌++◌, All, Some, map, take}
use Rattle.ld_rows.specs.declared.violations.Kind.TheVariants.{Forbidden}
use Rattle.ld_explain.specs.Steps.{AreFirst, IsEvery, violation_said}
use Rattle.ld_explain.proofs.violations.add_forbidden.Given as goal

abbrev pub invariant-loop-place : goal.invariant-loop-place
invariant-loop-place l = record {
  first : All (AreFirst l.book) l.fn.all.items → All (AreFirst l.book) l.all.items;
  every : IsEvery l.choice → map violation_said l.all.items ≡
      map violation_said l.fn.all.items ++ map (λ row. (Forbidden, Some row.state)) (take l.place l.rows);
}
