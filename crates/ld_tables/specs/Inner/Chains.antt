-- Chains of classes as the nodes of a tree. No public contract cites this file.
use Rattle.std.specs.Prelude.{◌≡◌, ◌<◌, ◌≤◌, ◌+◌, ◌-◌, ℕ, Bool, ◌&&◌, ◌==◌, nat_eq, List, [], ◌∷◌, ◌++◌, All, Option}
use Rattle.std.specs.Prelude.{Some, None, drop, fold, if◌then◌else◌, length, slice_index_or, take, IfSome}
use Rattle.std.specs.Option.{option_eq}
use Rattle.ld_tables.specs.declared.chains.Link.{Link}
use Rattle.ld_tables.specs.declared.chains.Run.{Run}
use Rattle.ld_tables.specs.declared.masks.Mask.{Mask}
use Rattle.ld_tables.specs.declared.chains.TheConstants.{MOST_CHAINS, MOST_KEPT}
use Rattle.ld_rules.specs.declared.outcome.TheConstants.{MOST_HELD}

-- the chain of this number, or the empty one
abbrev pub chain_before : List (List ℕ) → Option ℕ → List ℕ
chain_before chains None = []
chain_before chains (Some number) = slice_index_or chains number []

-- the chains by their numbers: each is a chain before it with one more class
abbrev pub chains_of : List Link → List (List ℕ)
chains_of links =
    fold (λ chains link. chains ++ (chain_before chains link.before ++ link.class ∷ []) ∷ []) []
    links

-- the link of a chain with one more class
abbrev pub link_with : ℕ → Option ℕ → Link
link_with class before = record { before = before; class = class }

-- each chain stands after the one before it
abbrev pub IsTree : List Link → Type 0
IsTree links =
    (n : ℕ) (link : Link) → n < length links
    → IfSome (slice_index_or links n link).before (λ m. m < n)

abbrev pub same_link : Link → Link → Bool
same_link a b = option_eq nat_eq a.before b.before && a.class == b.class

-- the chains, and of each, where they are kept, the masks of the dependencies from the classes before its last one to
-- that; and for how many masks there is memory in use
pub record KeptChains : Type 0 where
  pub links : List Link
  pub masks : List (Option (List Mask))
  pub kept : ℕ

abbrev pub no_chains : KeptChains
no_chains = record { links = []; masks = []; kept = 0 }

-- there may be one more chain, and the masks of one more may be kept
pub record HasRoom (chains : KeptChains) : Type 0 where
  pub links : length chains.links < MOST_CHAINS
  pub kept : chains.kept < MOST_KEPT

-- the masks from a run's start to its end, where there are some
abbrev pub masks_in : List Mask → Run → Option (List Mask)
masks_in masks run =
    if run.start == run.end then None else Some (take (run.end - run.start) (drop run.start masks))

-- a run lies among the masks
pub record IsRun (masks : List Mask) (run : Run) : Type 0 where
  pub order : run.start ≤ run.end
  pub within : run.end ≤ length masks

-- each chain stands after the one before it, and has its run among the masks; and there are so many
-- chains and masks at most
pub record AreKept (links : List Link) (masks : List Mask) (runs : List Run) : Type 0 where
  pub tree : IsTree links
  pub many : length runs ≡ length links
  pub few : length links ≤ MOST_CHAINS
  pub short : length masks ≤ MOST_KEPT + MOST_HELD
  pub within : All (IsRun masks) runs
