-- What traces show, joined with others.
use Rattle.std.proofs.Common.{◌≡◌, ◌∙◌, ◌+◌, ◌-◌, ◌++◌, ◌||◌, ℕ, Bool, List, [], ◌∷◌, filter_map, length, Option, Some, None, option_map, is_some, All, refl, ap, sym, subst}
use Rattle.std.proofs.lemmas.List.Elements.{All-filter, All-append}
use Rattle.std.proofs.lemmas.List.Folds.{list_any-append}
use Rattle.std.specs.List.{cons_option, list_any}
use Rattle.ld_trace.specs.Lines.{lines}
use Rattle.ld_trace.specs.Sources.{PlainSource, sources}
use Rattle.ld_trace.specs.Events.{PlainEvent}
use Rattle.ld_rules.specs.declared.outcome.Witness.{Witness}
use Rattle.ld_rules.specs.Dependency.{dependencies_at, least_line, same_dependency}
use Rattle.ld_rules.specs.Union.{first_of, first_witness}
use Rattle.ld_rules.specs.Usage.{same_use, uses_at}
use Rattle.ld_rules.proofs.PlaceLemmas.{flat_map-append}
use Rattle.ld_batch.specs.Batch.{AreRising}
use Rattle.ld_reduce.specs.Kept.{AreKept, keeps}
use Rattle.ld_reduce.specs.Same.{HaveSameUnion, ShowSame, place_of}
use Rattle.ld_reduce.specs.Written.{IsTrace, counted_anew, counted_from, ended, trace_text, written}
use Rattle.ld_reduce.proofs.MovedLemmas.{shown_by, within-same}
use Rattle.ld_reduce.proofs.TextLemmas.{texts-ended}
use Rattle.ld_reduce.proofs.UnionLemmas.{counted, union-kept}
use Rattle.ld_reduce.proofs.WrittenLemmas.{sources-written}

pub some-map : {X Y : Type 0} (f : X → Y) (o : Option X) → is_some (option_map f o) ≡ is_some o
some-map f None = refl
some-map f (Some x) = refl

module _ {A : Type 0} (same : A → A → Bool) (at : List PlainEvent → PlainEvent → List A) (what : A) where
  abbrev shows : PlainSource → Bool
  shows s = is_some (least_line same (shown_by same at s) what)

  abbrev first : List PlainSource → Option Witness
  first all = first_witness same (shown_by same at) all what

  abbrev witnesses : List PlainSource → List Witness
  witnesses all = filter_map (λ s. option_map (λ line. record { number = s.number; line = line }) (least_line same (shown_by same at s) what)) all

  -- some of the sources shows it
  some-first : (all : List PlainSource) → is_some (first all) ≡ list_any shows all
  some-first [] = refl
  some-first (s ∷ others) = by (least_line same (shown_by same at s) what) (some-first others)
    where
      by : (line : Option ℕ) → is_some (first_of (witnesses others)) ≡ list_any shows others
          → is_some (first_of (cons_option (option_map (λ line. record { number = s.number; line = line }) line) (witnesses others))) ≡ (is_some line || list_any shows others)
      by None later = later
      by (Some line) later = refl

  -- so it is however they are counted
  shows-counted : (n more : ℕ) (all : List PlainSource) → list_any shows (counted_from n more all) ≡ list_any shows all
  shows-counted n more [] = refl
  shows-counted n more (s ∷ others) =
      λ i. one i || shows-counted (n + 1) (more + 1 + length (lines (ended s.bytes))) others i
    where
      one : shows (counted n (more + 2) s) ≡ shows s
      one =
          sym (some-map (λ l. l - (more + 2)) (least_line same (shown_by same at (counted n (more + 2) s)) what))
          ∙ ap is_some (within-same same at what (counted n (more + 2) s) s (texts-ended s.bytes))
          ∙ some-map (λ l. l - s.first_line) (least_line same (shown_by same at s) what)

  -- and whatever they are joined with
  pub joined : (all kept others fewer : List PlainSource)
      → option_map (place_of all) (first all) ≡ option_map (place_of (counted_anew kept)) (first (counted_anew kept))
      → option_map (place_of others) (first others) ≡ option_map (place_of (counted_anew fewer)) (first (counted_anew fewer))
      → is_some (first (all ++ others)) ≡ is_some (first (counted_anew (kept ++ fewer)))
  joined all kept others fewer one two =
      some-first (all ++ others)
      ∙ list_any-append shows all others
      ∙ (λ i. alike all kept one i || alike others fewer two i)
      ∙ sym (list_any-append shows kept fewer)
      ∙ sym (shows-counted 0 0 (kept ++ fewer))
      ∙ sym (some-first (counted_anew (kept ++ fewer)))
    where
      alike : (all kept : List PlainSource) → option_map (place_of all) (first all) ≡ option_map (place_of (counted_anew kept)) (first (counted_anew kept)) → list_any shows all ≡ list_any shows kept
      alike all kept is =
          sym (some-first all) ∙ sym (some-map (place_of all) (first all)) ∙ ap is_some is ∙ some-map (place_of (counted_anew kept)) (first (counted_anew kept))
          ∙ some-first (counted_anew kept) ∙ shows-counted 0 0 kept

-- what has the same union shows the same
pub show_same-from_union : (sources others : List PlainSource) → HaveSameUnion sources others → ShowSame sources others
show_same-from_union sources others is = record {
  dependencies = λ what. sym (some-map (place_of sources) _) ∙ ap is_some (is.dependencies what) ∙ some-map (place_of others) _;
  uses = λ what. sym (some-map (place_of sources) _) ∙ ap is_some (is.uses what) ∙ some-map (place_of others) _;
}

-- Two streams that are reduced, joined, show what the traces of both do.
pub joined-kept : (refused too : Bool) (all kept others fewer : List PlainSource) → All IsTrace all → AreRising all → AreKept refused all kept
    → All IsTrace others → AreRising others → AreKept too others fewer → ShowSame (all ++ others) (sources (written kept ++ written fewer))
joined-kept refused too all kept others fewer traces rise are more_traces more_rise more_are =
    let one = union-kept refused all kept rise are in
    let two = union-kept too others fewer more_rise more_are in
    let own : All IsTrace kept = subst (λ these. All IsTrace these) (sym are.are) (All-filter (keeps are.is_first refused) IsTrace all traces) in
    let more : All IsTrace fewer = subst (λ these. All IsTrace these) (sym more_are.are) (All-filter (keeps more_are.is_first too) IsTrace others more_traces) in
    let cut : sources (written kept ++ written fewer) ≡ counted_anew (kept ++ fewer) =
    ap sources (sym (flat_map-append trace_text kept fewer)) ∙ sources-written (kept ++ fewer) (All-append IsTrace kept fewer own more) in
    subst (ShowSame (all ++ others)) (sym cut) (record {
      dependencies = λ what. joined same_dependency dependencies_at what all kept others fewer (one.dependencies what) (two.dependencies what);
      uses = λ what. joined same_use uses_at what all kept others fewer (one.uses what) (two.uses what);
    })
