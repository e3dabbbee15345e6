-- What stands before `!read` is the name of the lock.
use Rattle.std.proofs.Common.{◌≡◌, ◌≢◌, ◌++◌, [], Some, codes, rules}
use Rattle.std.proofs.lemmas.Bool.Decides.{Decides-eqb}
use Rattle.std.proofs.lemmas.Slice.Eq.{strip_suffix_is}
use Rattle.ld_overview.proofs.readers.lock_of_readers.Goals as goal

pub returns : goal.returns
returns c =
    let name : c.args.class.name.now ≡ c.in_ok-lock.lock.now ++ codes "!read" =
    strip_suffix_is Decides-eqb c.args.class.name.now (codes "!read") (Some c.in_ok-lock.lock) c.in_ok-lock.ensures.cases in
    let some : c.in_ok-lock.lock.now ≢ [] = search rules in
    let sub : c.args.class.sub ≡ 0 = search rules in
    record { readers_of = record { some = some; named = λ i. record { name = name i; sub = sub i } } }
