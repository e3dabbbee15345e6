-- The traces that are listed, and their numbers.
use Rattle.std.proofs.Common.{◌≡◌, ◌≢◌, ◌+◌, ◌<◌, ◌++◌, ◌||◌, ◌∷◌, [], List, ℕ, zero, suc, Bool, true, false, AllPairs, arith, cond, length, map, nat_eq, get_or, replicate, set, subst, take, refl, sym, ap, ◌∙◌}
use Rattle.std.proofs.lemmas.Bool.{false_from_ne_true, eq-eqb, eqb-true, true≢false}
use Rattle.std.proofs.lemmas.List.{get_or-set_other, get_or-set_same, get_or-take, get_or_default, length-take, map-append}
use Rattle.std.proofs.lemmas.List.Folds.{list_any-append, list_any_none}
use Rattle.std.proofs.lemmas.List.Sums.{fold_push}
use Rattle.std.specs.List.{list_any}
use Rattle.ld_class.proofs.Mapped.{list_any-map}
use Rattle.ld_trace.specs.Sources.{PlainSource, plain}
use Rattle.ld_rules.specs.declared.outcome.Listed.{Listed}
use Rattle.ld_rules.proofs.SameLemmas.{fails_each}
use Rattle.ld_facts.specs.Outcome.{outcome}
use Rattle.ld_batch.specs.Batch.{sources_of}
use Rattle.ld_book.specs.Book.{is_any_listed, is_listed}
use Rattle.ld_book.specs.Totals.{event_count, events_read, is_refused, refused_count}

-- the test of the numbers that are kept
pub listed_any : (listed : List Listed) (keys : List ℕ) (number : ℕ) → keys ≡ map (λ l. l.source.number) listed → list_any (nat_eq number) keys ≡ is_listed (sources_of listed) number
listed_any listed keys number numbers =
    ap (list_any (nat_eq number)) numbers
    ∙ list_any-map (λ (l : Listed). l.source.number) (nat_eq number) listed
    ∙ sym (list_any-map (λ (l : Listed). plain l.source) (λ source. nat_eq number source.number) listed)

-- the sources of some traces and one more
pub sources-push : (listed : List Listed) (last : Listed) → sources_of (listed ++ last ∷ []) ≡ sources_of listed ++ plain last.source ∷ []
sources-push listed last = map-append (λ l. plain l.source) listed (last ∷ [])

-- their events, and how many are refused
pub events-push : (listed : List Listed) (last : Listed) → last.outcome ≡ outcome (plain last.source)
    → event_count (sources_of (listed ++ last ∷ [])) ≡ event_count (sources_of listed) + events_read last.outcome
events-push listed last is =
    ap event_count (sources-push listed last)
    ∙ fold_push (λ n source. n + events_read (outcome source)) 0 (sources_of listed) (plain last.source)
    ∙ ap (λ o. event_count (sources_of listed) + events_read o) (sym is)

pub refused-push : (listed : List Listed) (last : Listed) → last.outcome ≡ outcome (plain last.source)
    → refused_count (sources_of (listed ++ last ∷ [])) ≡ refused_count (sources_of listed) + cond (is_refused last.outcome) 1 0
refused-push listed last is =
    ap refused_count (sources-push listed last)
    ∙ fold_push (λ n source. n + cond (is_refused (outcome source)) 1 0) 0 (sources_of listed) (plain last.source)
    ∙ ap (λ o. refused_count (sources_of listed) + cond (is_refused o) 1 0) (sym is)

-- one of some traces that are apart, none of which is listed, isn't listed with those before it
pub fresh_next : (sources : List PlainSource) (more : List PlainSource) (i : ℕ) (d : PlainSource) → i < length more → is_any_listed sources more ≡ false
    → AllPairs (λ a b. a.number ≢ b.number) more → is_listed (sources ++ take i more) (get_or more i d).number ≡ false
fresh_next sources more i d here fresh apart =
    list_any-append (λ source. nat_eq (get_or more i d).number source.number) sources (take i more)
    ∙ (λ j. among j || before j)
  where
    among : is_listed sources (get_or more i d).number ≡ false
    among = fails_each (λ source. is_listed sources source.number) more fresh i d here

    before : list_any (λ source. nat_eq (get_or more i d).number source.number) (take i more) ≡ false
    before = list_any_none (λ source. nat_eq (get_or more i d).number source.number) (take i more) (λ k e within. false_from_ne_true _ (λ same.
        let low : k < i = omega (arith, within, length-take i more) in
        let at : get_or (take i more) k e ≡ get_or more k d = get_or-take i more k e low ∙ get_or_default more k e d (omega (arith, low, here)) in
        apart k i d low here (ap (λ (s : PlainSource). s.number) (sym at) ∙ sym (eqb-true _ _ same))))

-- marks of the numbers that are listed, and of one more
pub marks-push : (marks : List Bool) (listed : List Listed) (last : Listed) → ((number : ℕ) → get_or marks number false ≡ is_listed (sources_of listed) number)
    → last.source.number < length marks
    → (number : ℕ) → get_or (set marks last.source.number true) number false ≡ is_listed (sources_of (listed ++ last ∷ [])) number
marks-push marks listed last told within number =
    by (nat_eq number last.source.number) refl
    ∙ sym (list_any-append (λ source. nat_eq number source.number) (sources_of listed) (plain last.source ∷ []))
    ∙ ap (λ all. is_listed all number) (sym (sources-push listed last))
  where
    or_true : (b : Bool) → true ≡ (b || true)
    or_true true = refl
    or_true false = refl

    or_false : (b : Bool) → b ≡ (b || false)
    or_false true = refl
    or_false false = refl

    by : (b : Bool) → nat_eq number last.source.number ≡ b → get_or (set marks last.source.number true) number false ≡ (is_listed (sources_of listed) number || (b || false))
    by true is =
        subst (λ n. get_or (set marks last.source.number true) n false ≡ true) (sym (eqb-true number last.source.number is)) (get_or-set_same marks last.source.number true false within)
        ∙ or_true (is_listed (sources_of listed) number)
    by false is =
        get_or-set_other marks last.source.number number true false (λ same. true≢false (sym (eq-eqb number last.source.number same) ∙ is))
        ∙ told number
        ∙ or_false (is_listed (sources_of listed) number)

-- marks with further ones that tell nothing
pub marks-more : (marks : List Bool) (count number : ℕ) → get_or (marks ++ replicate count false) number false ≡ get_or marks number false
marks-more [] zero number = refl
marks-more [] (suc count) zero = refl
marks-more [] (suc count) (suc number) = marks-more [] count number
marks-more (mark ∷ marks) count zero = refl
marks-more (mark ∷ marks) count (suc number) = marks-more marks count number
