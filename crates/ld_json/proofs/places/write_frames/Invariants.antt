use Rattle.std.proofs.Common.{◌≡◌, ◌++◌, codes, flat_map, take}
use Rattle.ld_json.specs.Json.{frame_json}
use Rattle.ld_json.proofs.places.write_frames.Given as goal

abbrev pub invariant-loop-frame : goal.invariant-loop-frame
invariant-loop-frame l = l.out.items ≡ l.initial.out.items ++ flat_map (λ other. codes "," ++ frame_json other) (take l.frame-index l.others)
