-- The sources of a stream without fault are traces, and their numbers rise.
use Rattle.std.proofs.Common.{◌≡◌, ◌+◌, ◌≤◌, ℕ, Bool, true, false, IfSome, List, [], ◌∷◌, length, drop, filter_map, Option, Some, None, All, slice_get, refl, ap, subst, arith}
use Rattle.std.specs.Prelude.{IsTrue, nat_lt, if◌then◌else◌}
use Rattle.std.proofs.lemmas.List.Elements.{All-cons, All-nil}
use Rattle.std.specs.List.{concat, cons_option, enumerate_from, prefix_len, take_while}
use Rattle.ld_trace.specs.declared.source.StreamFault.{StreamFault}
use Rattle.ld_trace.specs.declared.source.StreamFault.TheVariants.{TooLong}
use Rattle.ld_trace.specs.declared.source.TheConstants.{LONGEST_STREAM}
use Rattle.ld_trace.specs.Lines.{is_word, lines}
use Rattle.ld_trace.specs.Sources.{PlainSource, fault_at, fields_of, headers_before, is_header, is_other, label_of, line_faults, opened_at, section_at, sources, stream_fault}
use Rattle.ld_trace.proofs.NumberLemmas.{numbered}
use Rattle.ld_trace.proofs.SectionLemmas.{Opens, header-says, label-word, section-is}
use Rattle.ld_trace.proofs.SplitLemmas.{drop-next}
use Rattle.ld_batch.specs.Batch.{AreRising}
use Rattle.ld_reduce.specs.Written.{IsTrace}
use Rattle.ld_reduce.proofs.WrittenLemmas.{all_given, sources-none}

no_line_fault : (bytes : List ℕ) → stream_fault bytes ≡ None → line_faults (lines bytes) ≡ []
no_line_fault bytes sound = by (nat_lt LONGEST_STREAM (length bytes)) (line_faults (lines bytes)) sound
  where
    by : (long : Bool) (faults : List StreamFault) → (if long then Some TooLong else slice_get faults 0) ≡ None → faults ≡ []
    by true faults sound = absurd (cc)
    by false [] sound = refl
    by false (fault ∷ others) sound = absurd (cc)

none-first : {X : Type 0} (one : Option X) (others : List X) → cons_option one others ≡ [] → (one ≡ None) × (others ≡ [])
none-first None others is = (refl, is)
none-first (Some x) others is = absurd (cc)

module _ (all : List (List ℕ)) where
  abbrev HasLabel : PlainSource → Type 0
  HasLabel source = IsTrue (is_word source.label)

  -- the section of a header without fault has its label
  labelled-here : (n : ℕ) (x : List ℕ) (others : List (List ℕ)) → drop n all ≡ x ∷ others → is_header x ≡ true → fault_at all n x ≡ None → HasLabel (section_at all n)
  labelled-here n x others is header none = by (label_of (fields_of x)) refl
    where
      by : (label : Option (List ℕ)) → label_of (fields_of x) ≡ label → HasLabel (section_at all n)
      by None unlabelled = absurd (let fault = rw (header-says (fields_of x) header, header, unlabelled) at none in cc)
      by (Some name) labelled =
          let m = prefix_len is_other others in
          let opens : Opens all n m x others = record { is = is; header = header; own = refl } in
          let section = section-is all n m (headers_before all n) x others name (concat (take_while is_other others)) opens refl labelled refl in
          subst (λ label. IsTrue (is_word label)) (ap (λ (source : PlainSource). source.label) section) (label-word (fields_of x) name labelled)

  labelled : (n : ℕ) (xs : List (List ℕ)) → drop n all ≡ xs → filter_map (λ p. fault_at all p.0 p.1) (enumerate_from n xs) ≡ []
      → All HasLabel (filter_map (λ p. opened_at all p.0 p.1) (enumerate_from n xs))
  labelled n [] is none = All-nil HasLabel
  labelled n (x ∷ xs) is none =
      let parts = none-first (fault_at all n x) (filter_map (λ p. fault_at all p.0 p.1) (enumerate_from (n + 1) xs)) none in
      by (is_header x) refl parts.0 (labelled (n + 1) xs (drop-next all n x xs is) parts.1)
    where
      by : (test : Bool) → is_header x ≡ test → fault_at all n x ≡ None → All HasLabel (filter_map (λ p. opened_at all p.0 p.1) (enumerate_from (n + 1) xs))
          → All HasLabel (cons_option (if test then Some (section_at all n) else None) (filter_map (λ p. opened_at all p.0 p.1) (enumerate_from (n + 1) xs)))
      by true header here rest = All-cons HasLabel (section_at all n) _ (labelled-here n x xs is header here) rest
      by false other here rest = rest

pub sources-traces : (bytes : List ℕ) → stream_fault bytes ≡ None → All IsTrace (sources bytes)
sources-traces bytes sound k d within = record {
  label = labelled (lines bytes) 0 (lines bytes) refl (no_line_fault bytes sound) k d within;
  lines = sources-none bytes k d within;
}

pub sources-rising : (bytes : List ℕ) → AreRising (sources bytes)
sources-rising bytes i j d before within =
    let low = numbered bytes i d (omega (arith, before, within)) in
    let high = numbered bytes j d within in
    omega (arith, low, high, before)

-- a header stands before the lines of each
pub sources-heads : (bytes : List ℕ) → All (λ (source : PlainSource). 1 ≤ source.first_line) (sources bytes)
sources-heads bytes = all_given (λ (source : PlainSource). 1 ≤ source.first_line) (opened_at (lines bytes)) 0 (lines bytes) (λ i x. by i (is_header x))
  where
    by : (i : ℕ) (test : Bool) → IfSome (if test then Some (section_at (lines bytes) i) else None) (λ source. 1 ≤ source.first_line)
    by i true = omega arith
    by i false = tt
