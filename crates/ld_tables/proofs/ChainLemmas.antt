-- Chains by their numbers.
use Rattle.std.proofs.Common.{◌≡◌, ◌⊎◌, inl, inr, ◌<◌, ◌≤◌, ◌+◌, ◌∷◌, [], ◌++◌, List, ℕ, Bool, true, false, true≢false, nat_eq, Option, Some, None}
use Rattle.std.proofs.Common.{ap, ◌∙◌, sym, subst, arith, refl, length, get_or, if◌then◌else◌, IfSome}
use Rattle.std.proofs.lemmas.Bool.{eqb-true, and_parts, cases_lt}
use Rattle.std.proofs.lemmas.List.{get_or_push, get_or_append_left, length_push}
use Rattle.std.proofs.lemmas.List.Quantifiers.{position-Some}
use Rattle.std.specs.Option.{option_eq}
use Rattle.std.proofs.lemmas.List.Sums.{fold_push}
use Rattle.std.specs.List.{list_any, position}
use Rattle.ld_tables.specs.declared.chains.Link.{Link}
use Rattle.ld_tables.specs.Inner.Chains.{chain_before, chains_of, IsTree, same_link}
use Rattle.ld_rules.proofs.PlaceLemmas.{by_pushes}

same_before : (a b : Option ℕ) → option_eq nat_eq a b ≡ true → a ≡ b
same_before None None h = refl
same_before None (Some y) h = absurd (true≢false (sym h))
same_before (Some x) None h = absurd (true≢false (sym h))
same_before (Some x) (Some y) h = ap Some (eqb-true x y h)

pub same_link-≡ : (a b : Link) → same_link a b ≡ true → a ≡ b
same_link-≡ a b h =
    let parts = and_parts (option_eq nat_eq a.before b.before) (nat_eq a.class b.class) h in
    (λ i. record { before = same_before a.before b.before parts.0 i; class = eqb-true a.class b.class parts.1 i })

-- the chains, with one more
chains-push : (links : List Link) (link : Link) → chains_of (links ++ link ∷ []) ≡ chains_of links ++ (chain_before (chains_of links) link.before ++ link.class ∷ []) ∷ []
chains-push links link = fold_push (λ chains link. chains ++ (chain_before chains link.before ++ link.class ∷ []) ∷ []) [] links link

pub length-chains_of : (links : List Link) → length (chains_of links) ≡ length links
length-chains_of links = by_pushes (λ xs. length (chains_of xs) ≡ length xs) refl step links
  where
    step : (xs : List Link) (x : Link) → length (chains_of xs) ≡ length xs → length (chains_of (xs ++ x ∷ [])) ≡ length (xs ++ x ∷ [])
    step xs x h = ap length (chains-push xs x) ∙ length_push (chains_of xs) (chain_before (chains_of xs) x.before ++ x.class ∷ []) ∙ ap (λ n. n + 1) h ∙ sym (length_push xs x)

IsTree-front : (links : List Link) (link : Link) → IsTree (links ++ link ∷ []) → IsTree links
IsTree-front links link tree n d within =
    let longer : n < length (links ++ link ∷ []) = omega (arith, within, length_push links link) in
    subst (λ (l : Link). IfSome l.before (λ m. m < n)) (get_or_append_left links (link ∷ []) d n within) (tree n d longer)

pub IsTree-push : (links : List Link) (link : Link) → IsTree links → IfSome link.before (λ m. m < length links) → IsTree (links ++ link ∷ [])
IsTree-push links link tree last n d within = by (cases_lt n (length links))
  where
    by : (n < length links) ⊎ (length links ≤ n) → IfSome (get_or (links ++ link ∷ []) n d).before (λ m. m < n)
    by (inl below) = subst (λ (l : Link). IfSome l.before (λ m. m < n)) (sym (get_or_append_left links (link ∷ []) d n below)) (tree n d below)
    by (inr past) =
        let end : length links ≡ n = omega (arith, within, past, length_push links link) in
        subst (λ (l : Link). IfSome l.before (λ m. m < n)) (sym (get_or_push links link d n end)) (subst (λ k. IfSome link.before (λ m. m < k)) end last)

-- the chain before is among those that stand before
before-push : (chains : List (List ℕ)) (chain : List ℕ) (before : Option ℕ) → IfSome before (λ m. m < length chains) → chain_before (chains ++ chain ∷ []) before ≡ chain_before chains before
before-push chains chain None within = refl
before-push chains chain (Some m) within = get_or_append_left chains (chain ∷ []) [] m within

-- one more chain leaves the others
pub chains_kept : (links : List Link) (link : Link) (n : ℕ) → n < length (chains_of links) → get_or (chains_of (links ++ link ∷ [])) n [] ≡ get_or (chains_of links) n []
chains_kept links link n within = ap (λ cs. get_or cs n []) (chains-push links link) ∙ get_or_append_left (chains_of links)
    ((chain_before (chains_of links) link.before ++ link.class ∷ []) ∷ []) [] n within

-- each chain is the one before it with its class
pub chain_at : (links : List Link) → IsTree links → (n : ℕ) (d : Link) → n < length links → get_or (chains_of links) n [] ≡ chain_before
    (chains_of links) (get_or links n d).before ++ (get_or links n d).class ∷ []
chain_at links = by_pushes (λ xs. IsTree xs → (n : ℕ) (d : Link) → n < length xs → get_or (chains_of xs) n [] ≡ chain_before (chains_of xs)
    (get_or xs n d).before ++ (get_or xs n d).class ∷ []) (λ _ n d within. absurd (omega arith)) step links
  where
    within_some : (o : Option ℕ) (a b : ℕ) → a ≤ b → IfSome o (λ m. m < a) → IfSome o (λ m. m < b)
    within_some None a b le h = h
    within_some (Some m) a b le h = omega arith

    step : (xs : List Link) (x : Link) → (IsTree xs → (n : ℕ) (d : Link) → n < length xs → get_or (chains_of xs) n [] ≡ chain_before (chains_of xs)
        (get_or xs n d).before ++ (get_or xs n d).class ∷ []) → IsTree (xs ++ x ∷ []) → (n : ℕ) (d : Link) → n < length (xs ++ x ∷ []) → get_or
        (chains_of (xs ++ x ∷ [])) n [] ≡ chain_before (chains_of (xs ++ x ∷ [])) (get_or (xs ++ x ∷ []) n d).before ++ (get_or (xs ++ x ∷ []) n d).class ∷ []
    step xs x h tree n d within = by (cases_lt n (length xs))
      where
        many : length (chains_of xs) ≡ length xs
        many = length-chains_of xs

        by : (n < length xs) ⊎ (length xs ≤ n) → get_or (chains_of (xs ++ x ∷ [])) n [] ≡ chain_before (chains_of (xs ++ x ∷ []))
            (get_or (xs ++ x ∷ []) n d).before ++ (get_or (xs ++ x ∷ []) n d).class ∷ []
        by (inl below) =
            let here : get_or (xs ++ x ∷ []) n d ≡ get_or xs n d = get_or_append_left xs (x ∷ []) d n below in
            let old : IfSome (get_or xs n d).before (λ m. m < length (chains_of xs)) = within_some (get_or xs n d).before n (length (chains_of xs))
            (omega (arith, many, below)) (IsTree-front xs x tree n d below) in
            let same : chain_before (chains_of (xs ++ x ∷ [])) (get_or xs n d).before ≡ chain_before (chains_of xs) (get_or xs n d).before =
            ap (λ cs. chain_before cs (get_or xs n d).before) (chains-push xs x) ∙ before-push (chains_of xs) (chain_before (chains_of xs) x.before ++ x.class ∷ []) (get_or xs n d).before old in
            chains_kept xs x n (omega (arith, many, below)) ∙ h (IsTree-front xs x tree) n d below
            ∙ ap (λ c. c ++ (get_or xs n d).class ∷ []) (sym same)
            ∙ ap (λ (l : Link). chain_before (chains_of (xs ++ x ∷ [])) l.before ++ l.class ∷ []) (sym here)
        by (inr past) =
            let end : length xs ≡ n = omega (arith, within, past, length_push xs x) in
            let here : get_or (xs ++ x ∷ []) n d ≡ x = get_or_push xs x d n end in
            let old : IfSome x.before (λ m. m < length (chains_of xs)) = within_some x.before n (length (chains_of xs)) (omega (arith, many, end))
            (subst (λ (l : Link). IfSome l.before (λ m. m < n)) here (tree n d within)) in
            let same : chain_before (chains_of (xs ++ x ∷ [])) x.before ≡ chain_before (chains_of xs) x.before =
            ap (λ cs. chain_before cs x.before) (chains-push xs x) ∙ before-push (chains_of xs) (chain_before (chains_of xs) x.before ++ x.class ∷ []) x.before old in
            ap (λ cs. get_or cs n []) (chains-push xs x)
            ∙ get_or_push (chains_of xs) (chain_before (chains_of xs) x.before ++ x.class ∷ []) [] n (omega (arith, many, end))
            ∙ ap (λ c. c ++ x.class ∷ []) (sym same)
            ∙ ap (λ (l : Link). chain_before (chains_of (xs ++ x ∷ [])) l.before ++ l.class ∷ []) (sym here)

-- a chain that is found by its link
module _ (links : List Link) (link : Link) (tree : IsTree links) where
  pub found_within : (r : Option ℕ) → r ≡ position (same_link link) links → IfSome r (λ n. n < length (chains_of links))
  found_within None is = tt
  found_within (Some n) is = omega (arith, (position-Some (same_link link) links n link (sym is)).0, length-chains_of links)

  pub found_chain : (r : Option ℕ) → r ≡ position (same_link link) links → IfSome r (λ n. get_or (chains_of links) n []
      ≡ chain_before (chains_of links) link.before ++ link.class ∷ [])
  found_chain None is = tt
  found_chain (Some n) is =
      let at = position-Some (same_link link) links n link (sym is) in
      chain_at links tree n link at.0
      ∙ ap (λ (l : Link). chain_before (chains_of links) l.before ++ l.class ∷ []) (sym (same_link-≡ link (get_or links n link) at.1))

  -- or by its place
  module _ (n : ℕ) (at : (n < length links) × (get_or links n link ≡ link)) where
    pub place_within : n < length (chains_of links)
    place_within = omega (arith, at.0, length-chains_of links)

    pub place_chain : get_or (chains_of links) n [] ≡ chain_before (chains_of links) link.before ++ link.class ∷ []
    place_chain = chain_at links tree n link at.0 ∙ ap (λ (l : Link). chain_before (chains_of links) l.before ++ l.class ∷ []) at.1

-- one more chain is that before it with its class
pub chain_last : (links : List Link) (link : Link) → get_or (chains_of (links ++ link ∷ [])) (length links) [] ≡ chain_before (chains_of links) link.before ++ link.class ∷ []
chain_last links link = ap (λ cs. get_or cs (length links) []) (chains-push links link)
    ∙ get_or_push (chains_of links) (chain_before (chains_of links) link.before ++ link.class ∷ []) [] (length links) (length-chains_of links)

-- a chain that isn't there yet is put last
module _ (links : List Link) (link : Link) (none : list_any (same_link link) links ≡ false) where
  pub new_keys : (after : List Link) → after ≡ (if list_any (same_link link) links then links else links ++ link ∷ []) → after ≡ links ++ link ∷ []
  new_keys after is = is ∙ ap (λ (b : Bool). if b then links else links ++ link ∷ []) none
