-- The masks that are kept with chains.
use Rattle.std.proofs.Common.{◌≡◌, ◌<◌, ◌≤◌, ◌∷◌, [], ◌++◌, ◌⊎◌, inl, inr, List, ℕ, Option, Some, None, IfSome, Bor, Bool, false, Result, Ok, Err, OnOk, OnErr, IfOk}
use Rattle.std.proofs.Common.{◌≢◌, ◌+◌, ◌-◌, ◌==◌, All, ap, sym, subst, ◌∙◌, arith, drop, get_or, if◌then◌else◌, length, map, option_map, refl, set, take}
use Rattle.std.proofs.Math.Seq.{drop-append_seam}
use Rattle.std.proofs.lemmas.Bool.{cases_eq, cases_lt, ne_eqb}
use Rattle.std.proofs.lemmas.Grind.{get_or-set_at}
use Rattle.std.proofs.lemmas.List.{drop-append-le, get_or-set_other, get_or_append_left, get_or_push, length-drop, length_push, map-set}
use Rattle.std.proofs.lemmas.List.{same_from_push, take-append-le, take_all}
use Rattle.std.proofs.lemmas.List.Elements.{All-head, All-tail}
use Rattle.ld_tables.specs.declared.chains.Link.{Link}
use Rattle.ld_tables.specs.declared.masks.Mask.{Mask}
use Rattle.ld_tables.specs.declared.masks.Word.{Word}
use Rattle.ld_tables.specs.declared.chains.Run.{Run}
use Rattle.ld_tables.specs.Inner.Chains.{IsRun, KeptChains, chain_before, chains_of, link_with, masks_in}
use Rattle.ld_tables.specs.Inner.Edges.{AreMore, AreMasks}
use Rattle.ld_tables.specs.Inner.Locks.{HasItsMasks, IsExtended, IsNumbered, chain_of, classes_held}
use Rattle.ld_tables.specs.Inner.Stacks.{PlainHeld, plain_held}
use Rattle.ld_tables.specs.declared.held.Held.{Held}
use Rattle.std.proofs.lemmas.Simd.{map-map}
use Rattle.ld_tables.proofs.ChainLemmas.{chain_last, chains_kept, length-chains_of}
use Rattle.ld_tables.proofs.MaskLemmas.{AreMasks-kept}

some_kept : (a b : List Word) (class : ℕ) (froms : List ℕ) → AreMore a b → (o : Option (List Mask)) → IfSome o (AreMasks a class froms) → IfSome o (AreMasks b class froms)
some_kept a b class froms more None are = tt
some_kept a b class froms more (Some masks) are = AreMasks-kept a b class froms masks more are

-- with more words
pub masked_more : (chains : List (List ℕ)) (masks : List (Option (List Mask))) (a b : List Word) → AreMore a b → HasItsMasks chains masks a → HasItsMasks chains masks b
masked_more chains masks a b more are = record {
  each = λ n froms class within last. some_kept a b class froms more (get_or masks n None) (are.each n froms class within last);
}

-- the chain that a link stands for
module _ (links : List Link) (link : Link) (froms : List ℕ) (before : chain_before (chains_of links) link.before ≡ froms) where
  pub last_is : get_or (chains_of (links ++ link ∷ [])) (length links) [] ≡ froms ++ link.class ∷ []
  last_is = chain_last links link ∙ ap (λ c. c ++ link.class ∷ []) before

  pub extended_by : IsExtended (chains_of links) (chains_of (links ++ link ∷ []))
  extended_by = record {
    more = omega (arith, length-chains_of links, length-chains_of (links ++ link ∷ []), length_push links link);
    kept = λ n within. chains_kept links link n within;
  }

  -- one more chain
  pub masked_push : (masks : List (Option (List Mask))) (kept : Option (List Mask)) (words : List Word) → length masks ≡ length links → HasItsMasks (chains_of links) masks words
      → IfSome kept (AreMasks words link.class froms) → HasItsMasks (chains_of (links ++ link ∷ [])) (masks ++ kept ∷ []) words
  masked_push masks kept words many are new = record { each = λ n others class within last. by n others class last (cases_lt n (length links)) within }
    where
      by : (n : ℕ) (others : List ℕ) (class : ℕ) → get_or (chains_of (links ++ link ∷ [])) n [] ≡ others ++ class ∷ [] → (n < length links) ⊎ (length links ≤ n) →
          n < length (chains_of (links ++ link ∷ [])) → IfSome (get_or (masks ++ kept ∷ []) n None) (AreMasks words class others)
      by n others class last (inl below) _ =
          let inside : n < length (chains_of links) = omega (arith, below, length-chains_of links) in
          subst (λ o. IfSome o (AreMasks words class others)) (sym (get_or_append_left masks (kept ∷ []) None n (omega (arith, below, many))))
          (are.each n others class inside (sym (chains_kept links link n inside) ∙ last))
      by n others class last (inr past) within =
          let end : length links ≡ n = omega (arith, past, within, length-chains_of (links ++ link ∷ []), length_push links link) in
          let parts = same_from_push froms others link.class class (sym last_is ∙ ap (λ k. get_or (chains_of (links ++ link ∷ [])) k []) end ∙ last) in
          subst (λ o. IfSome o (AreMasks words class others)) (sym (get_or_push masks kept None n (many ∙ end)))
          (subst (λ fs. IfSome kept (AreMasks words class fs)) parts.0 (subst (λ k. IfSome kept (AreMasks words k froms)) parts.1 new))

-- what an attempt to add a chain leaves
module _ {E : Type 0} (old new : KeptChains) (link : Link) (froms : List ℕ) (before : chain_before (chains_of old.links) link.before ≡ froms) (kept : Option (List Mask)) where
  pub masked_then : (r : Result ℕ E) (words : List Word) → length old.masks ≡ length old.links → HasItsMasks (chains_of old.links) old.masks words → IfSome kept
      (AreMasks words link.class froms) → OnOk r (new.links ≡ old.links ++ link ∷ []) → OnOk r (new.masks ≡ old.masks ++ kept ∷ []) → OnErr r (new ≡ old) →
      HasItsMasks (chains_of new.links) new.masks words
  masked_then (Ok n) words many are fit links masks _ =
      subst (λ ns. HasItsMasks (chains_of new.links) ns words) (sym masks)
      (subst (λ ls. HasItsMasks (chains_of ls) (old.masks ++ kept ∷ []) words) (sym links) (masked_push old.links link froms before old.masks kept words many are fit))
  masked_then (Err e) words many are fit _ _ refused = subst (λ (k : KeptChains). HasItsMasks (chains_of k.links) k.masks words) (sym refused) are

  pub extended_then : (r : Result ℕ E) → OnOk r (new.links ≡ old.links ++ link ∷ []) → OnErr r (new ≡ old) → IsExtended (chains_of old.links) (chains_of new.links)
  extended_then (Ok n) links _ = subst (λ ls. IsExtended (chains_of old.links) (chains_of ls)) (sym links) (extended_by old.links link froms before)
  extended_then (Err e) _ refused = subst (λ (k : KeptChains). IsExtended (chains_of old.links) (chains_of k.links)) (sym refused) (record { more = omega arith; kept = λ n within. refl })

  pub within_then : (r : Result ℕ E) → IfOk r (λ n. n ≡ length old.links) → OnOk r (new.links ≡ old.links ++ link ∷ []) → IfOk r (λ n. n < length (chains_of new.links))
  within_then (Ok n) is links = omega (arith, is, ap length links, length_push old.links link, length-chains_of new.links)
  within_then (Err e) is links = tt

  pub chain_then : (r : Result ℕ E) → IfOk r (λ n. n ≡ length old.links) → OnOk r (new.links ≡ old.links ++ link ∷ []) → IfOk r
      (λ n. get_or (chains_of new.links) n [] ≡ froms ++ link.class ∷ [])
  chain_then (Ok n) is links = (λ i. get_or (chains_of (links i)) (is i) []) ∙ last_is old.links link froms before
  chain_then (Err e) is links = tt

-- the link of a stack whose chain is known
module _ (chains : List (List ℕ)) (stack : List Held) (class : ℕ) (link : Link) (is : Some link ≡ option_map (link_with class) (chain_of (map plain_held stack)))
    (numbered : IsNumbered chains (map plain_held stack)) where
  link_known : (o : Option (Option ℕ)) → Some link ≡ option_map (link_with class) o → (P : Option ℕ → Type 0) → IfSome o P → P link.before × (link.class ≡ class)
  link_known None same P holds = absurd (cc)
  link_known (Some before) same P holds =
      let at : link ≡ link_with class before = cc in
      (subst (λ (l : Link). P l.before) (sym at) holds, ap (λ (l : Link). l.class) at)

  pub link_before : IfSome link.before (λ n. n < length chains)
  link_before = (link_known (chain_of (map plain_held stack)) is (λ before. IfSome before (λ n. n < length chains)) numbered.known).0

  pub link_froms : chain_before chains link.before ≡ map (λ (h : Held). h.class) stack
  link_froms =
      (link_known (chain_of (map plain_held stack)) is (λ before. chain_before chains before ≡ classes_held (map plain_held stack)) numbered.chain).0
      ∙ map-map (λ (h : PlainHeld). h.class) plain_held stack

  pub link_class : link.class ≡ class
  link_class = (link_known (chain_of (map plain_held stack)) is (λ before. IfSome before (λ n. n < length chains)) numbered.known).1

-- the masks that are kept with a chain, where they lie in memory
pub known_masks : (words : List Word) (class : ℕ) (froms : List ℕ) (kept : Option (List Mask)) → IfSome kept (AreMasks words class froms) → (o : Option (Bor (List Mask))) →
    option_map (λ (masks : Bor (List Mask)). masks.now) o ≡ kept → IfSome o (λ (masks : Bor (List Mask)). AreMasks words class froms masks.now)
known_masks words class froms kept are None is = tt
known_masks words class froms kept are (Some masks) is = subst (λ k. IfSome k (AreMasks words class froms)) (sym is) are

-- a chain has its place among the runs
pub kept_within : (links : List Link) (masks : List Mask) (runs : List Run) (known : KeptChains) (chain : ℕ) → record { links = links; masks = map (masks_in masks) runs; kept = length masks } ≡ known →
    length runs ≡ length links → chain < length (chains_of known.links) → chain < length runs
kept_within links masks runs known chain is many within = omega (arith, within, many, ap (λ (k : KeptChains). length (chains_of k.links)) is, length-chains_of links)

-- a run by its place
pub run_at : (masks : List Mask) (runs : List Run) (chain : ℕ) (run : Run) → All (IsRun masks) runs → run ≡ get_or runs chain run → chain < length runs → IsRun masks run
run_at masks runs chain run are is within = subst (IsRun masks) (sym is) (are chain run within)

-- the masks of one that isn't empty
pub some_masks : (masks : List Mask) (run : Run) → (run.start == run.end) ≡ false → Some (take (run.end - run.start) (drop run.start masks)) ≡ masks_in masks run
some_masks masks run some = sym (ap (λ (t : Bool). if t then None else Some (take (run.end - run.start) (drop run.start masks))) some)

-- more masks leave those of a run as they are
masks_kept : (masks more : List Mask) (run : Run) → IsRun masks run → masks_in (masks ++ more) run ≡ masks_in masks run
masks_kept masks more run is =
    ap (λ ns. if run.start == run.end then None else Some ns)
    (ap (take (run.end - run.start)) (drop-append-le run.start masks more (omega (arith, is.order, is.within)))
    ∙ take-append-le (run.end - run.start) (drop run.start masks) more (omega (arith, is.order, is.within, length-drop run.start masks)))

all_kept : (masks more : List Mask) (runs : List Run) → All (IsRun masks) runs → map (masks_in (masks ++ more)) runs ≡ map (masks_in masks) runs
all_kept masks more [] are = refl
all_kept masks more (run ∷ runs) are =
    ap (λ kept. kept ∷ map (masks_in (masks ++ more)) runs) (masks_kept masks more run (All-head (IsRun masks) run runs are))
    ∙ ap (λ others. masks_in masks run ∷ others) (all_kept masks more runs (All-tail (IsRun masks) run runs are))

-- and are themselves those of a run
module _ (masks more : List Mask) (run : Run) (start : run.start ≡ length masks) (end : run.end ≡ length masks + length more) where
  new_masks : 0 < length more → masks_in (masks ++ more) run ≡ Some more
  new_masks some =
      ap (λ (t : Bool). if t then None else Some (take (run.end - run.start) (drop run.start (masks ++ more)))) (ne_eqb run.start run.end (λ same. omega (arith, some, start, end, same)))
      ∙ ap Some (ap (λ k. take (run.end - run.start) (drop k (masks ++ more))) start
      ∙ ap (take (run.end - run.start)) (drop-append_seam masks more)
      ∙ take_all (run.end - run.start) more (omega (arith, start, end)))

  pub masks_set : (runs : List Run) (chain : ℕ) → 0 < length more → All (IsRun masks) runs → map (masks_in (masks ++ more)) (set runs chain run)
      ≡ set (map (masks_in masks) runs) chain (Some more)
  masks_set runs chain some are =
      map-set (masks_in (masks ++ more)) runs chain run
      ∙ ap (λ ns. set ns chain (masks_in (masks ++ more) run)) (all_kept masks more runs are)
      ∙ ap (set (map (masks_in masks) runs) chain) (new_masks some)

-- with the masks of one more chain
pub masked_set : (chains : List (List ℕ)) (masks : List (Option (List Mask))) (words : List Word) (chain : ℕ) (froms : List ℕ) (class : ℕ) (kept : List Mask) → chain < length masks →
    get_or chains chain [] ≡ froms ++ class ∷ [] → AreMasks words class froms kept → HasItsMasks chains masks words → HasItsMasks chains (set masks chain (Some kept)) words
masked_set chains masks words chain froms class kept place is new are = record { each = λ n others last within said. by n others last within said (cases_eq n chain) }
  where
    by : (n : ℕ) (others : List ℕ) (last : ℕ) → n < length chains → get_or chains n [] ≡ others ++ last ∷ [] → (n ≡ chain) ⊎ (n ≢ chain) →
        IfSome (get_or (set masks chain (Some kept)) n None) (AreMasks words last others)
    by n others last within said (inl here) =
        let parts = same_from_push froms others class last (sym is ∙ ap (λ k. get_or chains k []) (sym here) ∙ said) in
        subst (λ o. IfSome o (AreMasks words last others)) (sym (get_or-set_at masks chain n (Some kept) None here place))
        (subst (λ fs. AreMasks words last fs kept) parts.0 (subst (λ k. AreMasks words k froms kept) parts.1 new))
    by n others last within said (inr other) =
        subst (λ o. IfSome o (AreMasks words last others)) (sym (get_or-set_other masks chain n (Some kept) None other)) (are.each n others last within said)

-- what an attempt to keep masks leaves
pub masked_kept : {U E : Type 0} (old new : KeptChains) (words : List Word) (masks : List (Option (List Mask))) (r : Result U E) → HasItsMasks (chains_of old.links) old.masks words →
    HasItsMasks (chains_of old.links) masks words → new.links ≡ old.links → OnOk r (new.masks ≡ masks) → OnErr r (new ≡ old) → HasItsMasks (chains_of new.links) new.masks words
masked_kept old new words masks (Ok u) _ are links is _ =
    subst (λ ls. HasItsMasks (chains_of ls) new.masks words) (sym links) (subst (λ ns. HasItsMasks (chains_of old.links) ns words) (sym is) are)
masked_kept old new words masks (Err e) are _ _ _ refused = subst (λ (k : KeptChains). HasItsMasks (chains_of k.links) k.masks words) (sym refused) are
