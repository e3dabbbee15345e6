-- What a scan had stands first in it, as more comes to it.
use Rattle.std.proofs.Common.{◌≡◌, ◌≤◌, List, length, take, refl, ap, sym, ◌∙◌, arith}
use Rattle.std.proofs.lemmas.List.{length-take, take-take, take_all}
use Rattle.ld_facts.specs.declared.scan.Scan.{Scan}
use Rattle.ld_facts.specs.Inner.Scan.{StandsOn}

-- what stands first in what stands first
pub take-first : {X : Type 0} (old middle new : List X) → take (length old) middle ≡ old → take (length middle) new ≡ middle → take (length old) new ≡ old
take-first old middle new first further =
    let short : length old ≤ length middle = omega (arith, length-take (length old) middle, ap length first) in
    sym (take-take (length old) (length middle) new short) ∙ ap (take (length old)) further ∙ first

pub stands-same : (scan : Scan) → StandsOn scan scan
stands-same scan = record {
  classes = take_all (length scan.classes) scan.classes (omega arith);
  edges = refl;
  before = refl;
  uses = take_all (length scan.uses) scan.uses (omega arith);
}

pub stands-further : (old middle new : Scan) → StandsOn old middle → StandsOn middle new → StandsOn old new
stands-further old middle new first further = record {
  classes = take-first old.classes middle.classes new.classes first.classes further.classes;
  edges = further.edges ∙ first.edges;
  before = further.before ∙ first.before;
  uses = take-first old.uses middle.uses new.uses first.uses further.uses;
}
