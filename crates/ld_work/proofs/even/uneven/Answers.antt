use Rattle.std.proofs.Common.{map, sym, subst}
use Rattle.std.proofs.lemmas.List.Sorted.{All-permutation, IsPermutation-sym}
use Rattle.std.proofs.lemmas.Option.{IfSome_then}
use Rattle.std.specs.List.{Contains}
use Rattle.std.specs.List.Sorted.{IsPermutation}
use Rattle.ld_trace.specs.Sources.{plain}
use Rattle.ld_batch.specs.Batch.{AreRising, sources_of}
use Rattle.ld_work.proofs.EvenLemmas.{IfNone_then, uneven_moved}
use Rattle.ld_work.proofs.even.uneven.Goals as goal
use Rattle.ld_work.proofs.even.uneven.Goals.{Joined-traces}

-- the traces in order are those of the book
moved : (c : Joined-traces) → IsPermutation (sources_of c.listed-2.result.now) c.args.book.now
moved c =
    IsPermutation-sym c.args.book.now (sources_of c.listed-2.result.now)
    (subst (IsPermutation c.args.book.now) (sym c.listed-2.ensures.sources) c.in_ok-traces.ensures.same)

pub first_uneven-requires-clause-rising : goal.first_uneven-requires-clause-rising
first_uneven-requires-clause-rising c = subst AreRising (sym c.listed-2.ensures.sources) c.listed-2.ensures.rising

pub first_uneven-requires-clause-among : goal.first_uneven-requires-clause-among
first_uneven-requires-clause-among c =
    All-permutation (Contains (map plain c.args.sources.now)) c.args.book.now (sources_of c.listed-2.result.now)
    (subst (IsPermutation c.args.book.now) (sym c.listed-2.ensures.sources) c.in_ok-traces.ensures.same) c.requires.among

pub returns-clause-even : goal.returns-clause-even
returns-clause-even c =
    IfNone_then c.first_uneven.result c.first_uneven.ensures.even (λ same. subst (λ all. IsPermutation all c.args.book.now) same (moved c))

pub returns-clause-uneven : goal.returns-clause-uneven
returns-clause-uneven c =
    IfSome_then c.first_uneven.result c.first_uneven.ensures.uneven
    (λ number is. uneven_moved (map plain c.args.sources.now) (sources_of c.listed-2.result.now) c.args.book.now number (moved c) is)
