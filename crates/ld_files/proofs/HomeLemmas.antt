-- Homes of traces, one for each.
use Rattle.std.proofs.Common.{◌≡◌, ◌+◌, ◌-◌, ◌<◌, ℕ, List, [], ◌∷◌, ◌++◌, get_or, length, map, take, refl, subst, sym, arith}
use Rattle.std.proofs.lemmas.List.{map-append, take_more}
use Rattle.std.specs.List.{AllZip}
use Rattle.ld_trace.specs.declared.source.Source.{Source}
use Rattle.ld_trace.specs.Sources.{PlainSource, plain, sources}
use Rattle.ld_trace.proofs.NumberLemmas.{numbered}
use Rattle.ld_origin.specs.declared.origin.Home.{Home}
use Rattle.ld_origin.specs.Origin.{PlainHome, plain_home}
use Rattle.ld_reduce.specs.Reduced.{HaveHomes}
use Rattle.ld_places.specs.Places.{PlainFile}
use Rattle.ld_files.specs.Homes.{AreHomes, IsHome}

zip-length : {A B : Type 0} (R : A → B → Type 0) (xs : List A) (ys : List B) → AllZip R xs ys → length xs ≡ length ys
zip-length R [] [] all = refl
zip-length R [] (y ∷ ys) all = absurd all
zip-length R (x ∷ xs) [] all = absurd all
zip-length R (x ∷ xs) (y ∷ ys) all = let rest = zip-length R xs ys all.1 in omega (arith, rest)

-- each trace of a stream has its home, by its number
pub have-homes : (files : List PlainFile) (bytes : List ℕ) (homes : List PlainHome) → AreHomes files (sources bytes) homes → HaveHomes homes (sources bytes)
have-homes files bytes homes are k d within =
    let number = numbered bytes k d within in
    let long = zip-length (λ (source : PlainSource) (home : PlainHome). IsHome files (source.first_line - 1) home) (sources bytes) homes are in
    omega (arith, number, long, within)

zip-push : {A B : Type 0} (R : A → B → Type 0) (xs : List A) (ys : List B) (x : A) (y : B) → AllZip R xs ys → R x y → AllZip R (xs ++ x ∷ []) (ys ++ y ∷ [])
zip-push R [] [] x y all one = (one, tt)
zip-push R [] (z ∷ ys) x y all one = absurd all
zip-push R (z ∷ xs) [] x y all one = absurd all
zip-push R (z ∷ xs) (w ∷ ys) x y all one = (all.0, zip-push R xs ys x y all.1 one)

-- one more
pub more-homes : (files : List PlainFile) (sources : List Source) (i : ℕ) (d : Source) (homes longer : List Home) (home : Home) → i < length sources → longer ≡ homes ++ home ∷ []
    → AreHomes files (map plain (take i sources)) (map plain_home homes) → IsHome files ((get_or sources i d).first_line - 1) (plain_home home)
    → AreHomes files (map plain (take (i + 1) sources)) (map plain_home longer)
more-homes files sources i d homes longer home within also all one =
    let last = get_or sources i d in
    subst (λ them. AreHomes files (map plain them) (map plain_home longer)) (sym (take_more sources i d within))
    (subst (λ them. AreHomes files (map plain (take i sources ++ last ∷ [])) (map plain_home them)) (sym also)
    (subst (λ them. AreHomes files them (map plain_home (homes ++ home ∷ []))) (sym (map-append plain (take i sources) (last ∷ [])))
    (subst (λ them. AreHomes files (map plain (take i sources) ++ plain last ∷ []) them) (sym (map-append plain_home homes (home ∷ [])))
    (zip-push (λ (source : PlainSource) (home : PlainHome). IsHome files (source.first_line - 1) home) (map plain (take i sources)) (map plain_home homes) (plain last) (plain_home home) all one))))
