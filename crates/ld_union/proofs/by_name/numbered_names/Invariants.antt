use Rattle.std.proofs.Common.{◌≡◌, map, All}
use Rattle.std.specs.List.{range_with_len}
use Rattle.ld_class.specs.Names.{IsNameAt, plain_class}
use Rattle.ld_union.proofs.by_name.numbered_names.Given as goal

abbrev pub invariant-loop-class : goal.invariant-loop-class
invariant-loop-class l = record {
  names : All (λ p. IsNameAt l.classes p.1 (plain_class p.0)) l.named.items;
  numbers : map (λ p. p.1) l.named.items ≡ range_with_len 0 l.class;
}
