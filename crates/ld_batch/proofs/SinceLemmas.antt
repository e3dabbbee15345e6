-- What some sources show together, and what is left of it where others are behind them.
use Rattle.std.proofs.Common.{◌≡◌, ◌+◌, ◌-◌, ◌<◌, ◌≤◌, ◌||◌, ◌⊎◌, inl, inr, ◌++◌, ◌∷◌, [], All, Bool, true, false, List, ℕ, Option, Some, None, IfSome, Contains}
use Rattle.std.proofs.Common.{drop, flat_map, get_or, is_some, length, take, refl, ap, sym, subst, ◌∙◌, append_assoc, arith, if◌then◌else◌, length-append}
use Rattle.std.proofs.lemmas.Bool.{or_left, or_right, true≢false}
use Rattle.std.proofs.lemmas.Bool.Decides.{nat_tests}
use Rattle.std.proofs.lemmas.List.{append-nil, get_or-append_right, get_or_append_left, get_or_default, get_or_push, length-drop, take-append-drop}
use Rattle.std.proofs.lemmas.List.Elements.{All-head, All-nil, All-tail, Contains-push_cases}
use Rattle.std.proofs.lemmas.List.Folds.{list_any-append, list_any_at}
use Rattle.std.proofs.lemmas.List.Sums.{fold-append}
use Rattle.std.specs.List.{list_any}
use Rattle.ld_class.specs.Names.{PlainClass, place_of, same_class, with_name}
use Rattle.ld_class.proofs.NameLemmas.{same_class-Decides}
use Rattle.ld_trace.specs.Sources.{Fits, PlainSource}
use Rattle.ld_rules.specs.declared.outcome.Witness.{Witness}
use Rattle.ld_rules.specs.Dependency.{Seen, least_line}
use Rattle.ld_rules.specs.Outcome.{each_once}
use Rattle.ld_rules.specs.Union.{classes_of, earlier, first_witness, is_before, union_classes}
use Rattle.ld_rules.proofs.PlaceLemmas.{alike_from_decides, any_each_once, by_pushes, flat_map-append}
use Rattle.ld_batch.specs.Batch.{AreRising, IsBatch, IsShown, PlainBatch, PlainShown, first_since, shown_alone}
use Rattle.ld_batch.specs.Inner.Names.{AreThere, with_names}
use Rattle.ld_batch.specs.Inner.Rows.{earlier_of, seen_in}
use Rattle.ld_batch.proofs.EarlierLemmas.{earlier-lower, earlier_of-assoc}
use Rattle.ld_batch.proofs.NameLemmas.{longer_all, place_of-any, with_names-both_once, with_names-each_once}
use Rattle.ld_batch.proofs.SourceLemmas.{earlier_of-none, shown-push, shown_in, witness-push}

-- what a batch shows, behind which there is none
pub shown-alone : (batch : PlainBatch) → IsBatch batch → IsShown (shown_alone batch)
shown-alone batch is = record {
  fit = is.fit;
  rise = is.rise;
  classes = is.classes;
  within = is.within;
  once = is.once;
  edges = is.edges;
  used_within = is.used_within;
  used_once = is.used_once;
  usage = is.usage;
}

-- where there is none behind, it is a batch
pub batch-alone : (shown : PlainShown) → IsShown shown → shown.behind ≡ []
    → IsBatch (record { sources = shown.sources; classes = shown.classes; edges = shown.edges; usage = shown.usage })
batch-alone shown is alone =
    let all : IsShown (record { behind = []; sources = shown.sources; classes = shown.classes; edges = shown.edges; usage = shown.usage }) =
    subst (λ behind. IsShown (record { behind = behind; sources = shown.sources; classes = shown.classes; edges = shown.edges; usage = shown.usage })) alone is in
    record {
      fit = all.fit;
      rise = all.rise;
      classes = all.classes;
      within = all.within;
      once = all.once;
      edges = all.edges;
      used_within = all.used_within;
      used_once = all.used_once;
      usage = all.usage;
    }

-- what is behind, and what comes after that
module _ (behind more : List PlainSource) where
  pub rise-behind : AreRising (behind ++ more) → AreRising behind
  rise-behind rise i j d low within =
      subst (λ s. s.number < (get_or behind j d).number) (get_or_append_left behind more d i (omega (arith, low, within)))
      (subst (λ s. (get_or (behind ++ more) i d).number < s.number) (get_or_append_left behind more d j within)
      (rise i j d low (omega (arith, within, length-append behind more))))

  -- the source at a place of the second list
  at-since : (k : ℕ) (d : PlainSource) → get_or (behind ++ more) (length behind + k) d ≡ get_or more k d
  at-since k d =
      get_or-append_right behind more (length behind) (length behind + k) d refl (omega arith)
      ∙ ap (λ n. get_or more n d) (omega arith)

  pub rise-since : AreRising (behind ++ more) → AreRising more
  rise-since rise i j d low within =
      subst (λ s. s.number < (get_or more j d).number) (at-since i d)
      (subst (λ s. (get_or (behind ++ more) (length behind + i) d).number < s.number) (at-since j d)
      (rise (length behind + i) (length behind + j) d (omega (arith, low)) (omega (arith, within, length-append behind more))))

  pub rise-between : AreRising (behind ++ more) → All (λ b. All (λ s. b.number < s.number) more) behind
  rise-between rise i d within k e here =
      subst (λ n. n < (get_or more k e).number) number
      (subst (λ s. (get_or (behind ++ more) i e).number < s.number) (at-since k e)
      (rise i (length behind + k) e (omega (arith, within)) (omega (arith, here, length-append behind more))))
    where
      number : (get_or (behind ++ more) i e).number ≡ (get_or behind i d).number
      number = ap (λ s. s.number) (get_or_append_left behind more e i within ∙ get_or_default behind i e d within)

  pub fit-since : All Fits (behind ++ more) → All Fits more
  fit-since fit k d within = subst Fits (at-since k d) (fit (length behind + k) d (omega (arith, within, length-append behind more)))

-- there is a witness, and its number is at most this
abbrev IsBy : ℕ → Option Witness → Type 0
IsBy number None = ⊥
IsBy number (Some w) = w.number ≤ number

before-number : (a b : Witness) → is_before a b ≡ true → a.number ≤ b.number
before-number a b is = grind (arith, nat_tests, is)

after-number : (a b : Witness) → is_before a b ≡ false → b.number ≤ a.number
after-number a b is = grind (arith, nat_tests, is)

number-left : (a b : Witness) → (earlier a b).number ≤ a.number
number-left a b = by (is_before b a) refl
  where
    by : (t : Bool) → is_before b a ≡ t → (if t then b else a).number ≤ a.number
    by true is = before-number b a is
    by false is = omega arith

number-right : (a b : Witness) → (earlier a b).number ≤ b.number
number-right a b = by (is_before b a) refl
  where
    by : (t : Bool) → is_before b a ≡ t → (if t then b else a).number ≤ b.number
    by true is = omega arith
    by false is = after-number b a is

by-left : (number : ℕ) (a b : Option Witness) → IsBy number a → IsBy number (earlier_of a b)
by-left number None b is = absurd is
by-left number (Some a) None is = is
by-left number (Some a) (Some b) is = let less = number-left a b in omega (arith, is, less)

by-right : (number : ℕ) (a : Option Witness) (b : Witness) → b.number ≤ number → IsBy number (earlier_of a (Some b))
by-right number None b is = is
by-right number (Some a) b is = let less = number-right a b in omega (arith, is, less)

-- one that is in a lower trace than the other is the earlier one
keeps-lower : (number : ℕ) (a b : Option Witness) → IsBy number a → IfSome b (λ v. number < v.number) → earlier_of a b ≡ a
keeps-lower number None b is above = absurd is
keeps-lower number (Some a) None is above = refl
keeps-lower number (Some a) (Some b) is above = ap Some (earlier-lower a b (omega (arith, is, above)))

both-some : (Q : Witness → Type 0) (a b : Option Witness) → IfSome a Q → IfSome b Q → IfSome (earlier_of a b) Q
both-some Q None b first second = second
both-some Q (Some a) None first second = first
both-some Q (Some a) (Some b) first second = by (is_before b a)
  where
    by : (t : Bool) → Q (if t then b else a)
    by true = second
    by false = first

module _ {A : Type 0} (same : A → A → Bool) (shown : PlainSource → List (Seen A)) where
  abbrev first_in : List PlainSource → A → Option Witness
  first_in sources what = first_witness same shown sources what

  -- the first witness over the sources of two lists
  pub witness-sources : (sources more : List PlainSource) (what : A) → first_witness same shown (sources ++ more) what ≡ earlier_of (first_witness same shown sources what) (first_witness same shown more what)
  witness-sources sources more what =
      by_pushes (λ all. first_in (sources ++ all) what ≡ earlier_of (first_in sources what) (first_in all what))
      (ap (λ all. first_in all what) (append-nil sources) ∙ earlier_of-none (first_in sources what))
      step more
    where
      step : (all : List PlainSource) (source : PlainSource) → first_in (sources ++ all) what ≡ earlier_of (first_in sources what) (first_in all what)
          → first_in (sources ++ (all ++ source ∷ [])) what ≡ earlier_of (first_in sources what) (first_in (all ++ source ∷ []) what)
      step all source before =
          ap (λ these. first_in these what) (sym (append_assoc sources all (source ∷ [])))
          ∙ witness-push same shown (sources ++ all) source what
          ∙ ap (λ first. earlier_of first (shown_in same shown what source)) before
          ∙ earlier_of-assoc (first_in sources what) (first_in all what) (shown_in same shown what source)
          ∙ ap (earlier_of (first_in sources what)) (sym (witness-push same shown all source what))

  module _ (what : A) where
    abbrev at_source : PlainSource → Option Witness
    at_source source = shown_in same shown what source

    -- a witness in one of the sources has the source's number
    number-of : (source : PlainSource) (P : ℕ → Type 0) → P source.number → IfSome (at_source source) (λ w. P w.number)
    number-of source P is = by (least_line same (shown source) what)
      where
        by : (line : Option ℕ) → IfSome (seen_in source.number line) (λ w. P w.number)
        by None = tt
        by (Some line) = is

    -- what holds of the witness in each source holds of the first one
    first-of : (Q : Witness → Type 0) (sources : List PlainSource) → All (λ s. IfSome (at_source s) Q) sources → IfSome (first_in sources what) Q
    first-of Q = by_pushes (λ ss. All (λ s. IfSome (at_source s) Q) ss → IfSome (first_in ss what) Q) (λ all. tt) (λ ss s before all.
        subst (λ o. IfSome o Q) (sym (witness-push same shown ss s what))
        (both-some Q (first_in ss what) (at_source s)
        (before (λ k d within. subst (λ s. IfSome (at_source s) Q) (get_or_append_left ss (s ∷ []) d k within) (all k d (omega (arith, within, length-append ss (s ∷ []))))))
        (subst (λ s. IfSome (at_source s) Q) (get_or_push ss s s (length ss) refl) (all (length ss) s (omega (arith, length-append ss (s ∷ [])))))))

    -- the first witness isn't in a later trace than one of the sources that shows it
    first-by : (source : PlainSource) (w : Witness) → at_source source ≡ Some w → (sources : List PlainSource) → Contains sources source → IsBy w.number (first_in sources what)
    first-by source w is = by_pushes (λ ss. Contains ss source → IsBy w.number (first_in ss what)) (λ there. absurd (omega (arith, there.1))) (λ ss s before there.
        subst (IsBy w.number) (sym (witness-push same shown ss s what)) (by ss s before (Contains-push_cases ss s source there)))
      where
        by : (ss : List PlainSource) (s : PlainSource) → (Contains ss source → IsBy w.number (first_in ss what)) → Contains ss source ⊎ (s ≡ source) → IsBy w.number (earlier_of (first_in ss what) (at_source s))
        by ss s before (inl there) = by-left w.number (first_in ss what) (at_source s) (before there)
        by ss s before (inr last) = subst (λ o. IsBy w.number (earlier_of (first_in ss what) o)) (sym (ap at_source last ∙ is)) (by-right w.number (first_in ss what) w (omega arith))

    -- Some sources that come after others add to a union that has those what these show alone.
    pub witness-since : (sources behind more : List PlainSource) → All (Contains sources) behind → AreRising (behind ++ more)
        → earlier_of (first_in sources what) (first_since (first_witness same shown) behind more what) ≡ first_witness same shown (sources ++ more) what
    witness-since sources behind more there rise = by (first_in behind what) refl
      where
        early : IfSome (first_in behind what) (λ w. IsBy w.number (first_in sources what) × All (λ s. w.number < s.number) more)
        early = first-of (λ w. IsBy w.number (first_in sources what) × All (λ s. w.number < s.number) more) behind (λ k d within. seen (get_or behind k d) (there k d within) (rise-between behind more rise k d within) (at_source (get_or behind k d)) refl)
          where
            seen : (b : PlainSource) → Contains sources b → All (λ s. b.number < s.number) more → (o : Option Witness) → at_source b ≡ o
                → IfSome o (λ w. IsBy w.number (first_in sources what) × All (λ s. w.number < s.number) more)
            seen b is low None shows = tt
            seen b is low (Some w) shows = (first-by b w shows sources is, subst (λ o. IfSome o (λ w. All (λ s. w.number < s.number) more)) shows (number-of b (λ n. All (λ s. n < s.number) more) low))

        by : (o : Option Witness) → first_in behind what ≡ o → earlier_of (first_in sources what) (if is_some o then None else first_in more what) ≡ first_in (sources ++ more) what
        by None is = sym (witness-sources sources more what)
        by (Some w) is =
            let low : IsBy w.number (first_in sources what) × All (λ s. w.number < s.number) more = subst (λ o. IfSome o (λ w. IsBy w.number (first_in sources what) × All (λ s. w.number < s.number) more)) is early in
            sym (earlier_of-none (first_in sources what))
            ∙ sym (keeps-lower w.number (first_in sources what) (first_in more what) low.0
            (first-of (λ v. w.number < v.number) more (λ k d within. number-of (get_or more k d) (λ n. w.number < n) (low.1 k d within))))
            ∙ sym (witness-sources sources more what)

-- Names that are all there change nothing.
known-name : (names : List PlainClass) (name : PlainClass) → list_any (same_class name) names ≡ true → with_name names name ≡ names
known-name names name there = ap (λ (b : Bool). if b then names else names ++ name ∷ []) (place_of-any names name ∙ there)

known-names : (names these : List PlainClass) → All (λ name. list_any (same_class name) names ≡ true) these → with_names names these ≡ names
known-names names [] there = refl
known-names names (name ∷ these) there =
    ap (λ all. with_names all these) (known-name names name (All-head (λ n. list_any (same_class n) names ≡ true) name these there))
    ∙ known-names names these (All-tail (λ n. list_any (same_class n) names ≡ true) name these there)

-- a class of one of the sources is among those of all
any-of : (test : PlainClass → Bool) (source : PlainSource) → list_any test (classes_of source) ≡ true → (sources : List PlainSource) → Contains sources source → list_any test (flat_map classes_of sources) ≡ true
any-of test source some = by_pushes (λ ss. Contains ss source → list_any test (flat_map classes_of ss) ≡ true) (λ there. absurd (omega (arith, there.1))) (λ ss s before there.
    ap (list_any test) (shown-push ss s) ∙ list_any-append test (flat_map classes_of ss) (classes_of s) ∙ by ss s before (Contains-push_cases ss s source there))
  where
    by : (ss : List PlainSource) (s : PlainSource) → (Contains ss source → list_any test (flat_map classes_of ss) ≡ true) → Contains ss source ⊎ (s ≡ source)
        → (list_any test (flat_map classes_of ss) || list_any test (classes_of s)) ≡ true
    by ss s before (inl there) = or_left (list_any test (flat_map classes_of ss)) (list_any test (classes_of s)) (before there)
    by ss s before (inr last) = or_right (list_any test (flat_map classes_of ss)) (list_any test (classes_of s)) (ap (λ s. list_any test (classes_of s)) last ∙ some)

known-source : (sources : List PlainSource) (source : PlainSource) → Contains sources source → with_names (union_classes sources) (classes_of source) ≡ union_classes sources
known-source sources source there = known-names (union_classes sources) (classes_of source) (λ k d within.
    let name = get_or (classes_of source) k d in
    any_each_once same_class (alike_from_decides same_class same_class-Decides) name (flat_map classes_of sources)
    ∙ any-of (same_class name) source (list_any_at (same_class name) (classes_of source) k d within ((same_class-Decides name name).1 refl)) sources there)

known-sources : (sources behind : List PlainSource) → All (Contains sources) behind → with_names (union_classes sources) (flat_map classes_of behind) ≡ union_classes sources
known-sources sources [] there = refl
known-sources sources (b ∷ behind) there =
    fold-append with_name (union_classes sources) (classes_of b) (flat_map classes_of behind)
    ∙ ap (λ names. with_names names (flat_map classes_of behind)) (known-source sources b (All-head (Contains sources) b behind there))
    ∙ known-sources sources behind (All-tail (Contains sources) b behind there)

-- the classes of those behind, and behind them the others
module _ (behind more : List PlainSource) where
  abbrev here : List PlainClass
  here = union_classes (behind ++ more)

  abbrev count : ℕ
  count = length (union_classes behind)

  grown : with_names (union_classes behind) (flat_map classes_of more) ≡ here
  grown = with_names-each_once (flat_map classes_of behind) (flat_map classes_of more) ∙ ap (each_once same_class) (sym (flat_map-append classes_of behind more))

  pub front-since : take count here ≡ union_classes behind
  front-since = ap (take count) (sym grown) ∙ (longer_all (union_classes behind) (flat_map classes_of more)).front

  pub least-since : count ≤ length here
  least-since = let longer = longer_all (union_classes behind) (flat_map classes_of more) in omega (arith, longer.least, ap length grown)

-- Some sources that come after others add to a union that has those what classes they have.
module _ (sources behind more : List PlainSource) (there : All (Contains sources) behind) where
  both : each_once same_class (flat_map classes_of sources ++ flat_map classes_of behind) ≡ union_classes sources
  both = sym (with_names-each_once (flat_map classes_of sources) (flat_map classes_of behind)) ∙ known-sources sources behind there

  classes-since : with_names (union_classes sources) (union_classes (behind ++ more)) ≡ union_classes (sources ++ more)
  classes-since =
      with_names-both_once (flat_map classes_of sources) (flat_map classes_of (behind ++ more))
      ∙ ap (λ last. each_once same_class (flat_map classes_of sources ++ last)) (flat_map-append classes_of behind more)
      ∙ ap (each_once same_class) (sym (append_assoc (flat_map classes_of sources) (flat_map classes_of behind) (flat_map classes_of more)))
      ∙ sym (with_names-each_once (flat_map classes_of sources ++ flat_map classes_of behind) (flat_map classes_of more))
      ∙ ap (λ names. with_names names (flat_map classes_of more)) both
      ∙ with_names-each_once (flat_map classes_of sources) (flat_map classes_of more)
      ∙ ap (each_once same_class) (sym (flat_map-append classes_of sources more))

  abbrev new : List PlainClass
  new = drop (length (union_classes behind)) (union_classes (behind ++ more))

  pub new-since : with_names (union_classes sources) new ≡ union_classes (sources ++ more)
  new-since =
      ap (λ names. with_names names new) (sym (with_names-both_once (flat_map classes_of sources) (flat_map classes_of behind) ∙ both))
      ∙ sym (fold-append with_name (union_classes sources) (union_classes behind) new)
      ∙ ap (with_names (union_classes sources)) (ap (λ front. front ++ new) (sym (front-since behind more)) ∙ take-append-drop (length (union_classes behind)) (union_classes (behind ++ more)))
      ∙ classes-since

  pub few-since : length (union_classes (sources ++ more)) + length (union_classes behind) ≤ length (union_classes sources) + length (union_classes (behind ++ more))
  few-since =
      let longer = longer_all (union_classes sources) new in
      omega (arith, longer.most, ap length new-since, length-drop (length (union_classes behind)) (union_classes (behind ++ more)), least-since behind more)

-- the classes of some of the sources are among those of all
any-behind : (test : PlainClass → Bool) (sources behind : List PlainSource) → All (Contains sources) behind → list_any test (flat_map classes_of behind) ≡ true → list_any test (flat_map classes_of sources) ≡ true
any-behind test sources [] there some = absurd (true≢false (sym some))
any-behind test sources (b ∷ behind) there some = by (list_any test (classes_of b)) refl (any-behind test sources behind (All-tail (Contains sources) b behind there))
  where
    by : (t : Bool) → list_any test (classes_of b) ≡ t → (list_any test (flat_map classes_of behind) ≡ true → list_any test (flat_map classes_of sources) ≡ true)
        → list_any test (flat_map classes_of sources) ≡ true
    by true is rest = any-of test b is sources (All-head (Contains sources) b behind there)
    by false is rest = rest (ap (λ t. t || list_any test (flat_map classes_of behind)) (sym is) ∙ sym (list_any-append test (classes_of b) (flat_map classes_of behind)) ∙ some)

pub there-behind : (sources behind : List PlainSource) → All (Contains sources) behind → AreThere (union_classes sources) (union_classes behind)
there-behind sources behind there k d within =
    let name = get_or (union_classes behind) k d in
    let alike = alike_from_decides same_class same_class-Decides in
    place_of-any (union_classes sources) name
    ∙ any_each_once same_class alike name (flat_map classes_of sources)
    ∙ any-behind (same_class name) sources behind there
    (sym (any_each_once same_class alike name (flat_map classes_of behind)) ∙ list_any_at (same_class name) (union_classes behind) k d within ((same_class-Decides name name).1 refl))
