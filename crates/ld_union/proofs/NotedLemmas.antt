-- Dependencies that are noted one after the other.
use Rattle.std.proofs.Common.{◌≡◌, ◌≢◌, ◌+◌, ◌≤◌, ◌++◌, ◌∷◌, [], All, AllPairs, List, suc, Bool, true, false, cond, Option, Some, None, length}
use Rattle.std.proofs.Common.{append_assoc, arith, get_or, map, option_map, take, vec_capacity, vec_len, refl, sym, ap, subst, ◌∙◌, if◌then◌else◌}
use Rattle.std.proofs.lemmas.Bool.{false_from_ne_true}
use Rattle.std.proofs.lemmas.List.{append-nil, get_or_append_left, map-append, take_all}
use Rattle.std.proofs.lemmas.List.Elements.{All-drop}
use Rattle.std.proofs.lemmas.List.Sums.{fold-append}
use Rattle.std.proofs.Math.ListN.{length-append}
use Rattle.std.proofs.Math.Seq.{drop-append_seam, take-length}
use Rattle.std.specs.List.{find, list_any}
use Rattle.ld_class.specs.Names.{PlainClass}
use Rattle.ld_rules.specs.declared.outcome.Witness.{Witness}
use Rattle.ld_rules.specs.Dependency.{Dependency, same_dependency}
use Rattle.ld_batch.specs.declared.rows.WitnessedEdge.{WitnessedEdge}
use Rattle.ld_batch.specs.Batch.{Met, named_dependency, witness_of}
use Rattle.ld_batch.proofs.SourceLemmas.{earlier_of-none}
use Rattle.ld_union.specs.declared.dependencies.Dependencies.{Dependencies}
use Rattle.ld_union.specs.declared.dependencies.Witnessed.{Witnessed}
use Rattle.ld_graph.specs.declared.Edge.{Edge}
use Rattle.ld_union.specs.Inner.Earlier.{is_earlier}
use Rattle.ld_union.specs.Inner.Noted.{AreNoted, IsNoting, with_all}
use Rattle.ld_union.specs.Inner.Union.{AreWitnessed, earlier_of, edges_of, named_edge, with_seen}
use Rattle.ld_union.proofs.EarlierLemmas.{witnessed-again}
use Rattle.ld_union.proofs.ReachedLemmas.{front-then, further-same, further-then}
use Rattle.ld_union.proofs.SeenLemmas.{none_found}
use Rattle.ld_union.proofs.UnionLemmas.{length_rows, same_dependency-true}

-- all edges of the rows
pub all_edges : (rows : List Witnessed) → take (length rows) (edges_of rows) ≡ edges_of rows
all_edges rows = ap (λ n. take n (edges_of rows)) (length_rows rows) ∙ take-length (edges_of rows)

edges_stay : (old mid new : List Witnessed) → take (length old) (edges_of mid) ≡ edges_of old → take (length mid) (edges_of new) ≡ edges_of mid → take (length old) (edges_of new) ≡ edges_of old
edges_stay old mid new first next =
    ap (λ n. take n (edges_of new)) (length_rows old)
    ∙ front-then (edges_of old) (edges_of mid) (edges_of new)
    (ap (λ n. take n (edges_of mid)) (sym (length_rows old)) ∙ first)
    (ap (λ n. take n (edges_of new)) (sym (length_rows mid)) ∙ next)

module _ (names batch : List PlainClass) where
  -- none was noted
  pub noted_none : (now : Dependencies) → AreNoted names batch [] now now
  noted_none now = record {
    classes = refl;
    spare_edges = omega arith;
    spare_rows = λ n room. omega (arith, room);
    front = all_edges now.rows.items;
    further = further-same now.reach;
    exact = λ state seeds is. is;
    closing = λ was. was;
    numbered = λ between. between;
    witnesses = λ between first witnessed. witnessed;
  }

  -- one was noted that was seen in an earlier trace
  pub noted_again : (now : Dependencies) (met : WitnessedEdge) (e : Edge) → named_edge names e ≡ (named_dependency batch met).what
      → list_any (is_earlier e met.witness.number) now.rows.items ≡ true → AreNoted names batch (met ∷ []) now now
  noted_again now met e same found = record {
    classes = refl;
    spare_edges = omega arith;
    spare_rows = λ n room. omega (arith, room);
    front = all_edges now.rows.items;
    further = further-same now.reach;
    exact = λ state seeds is. is;
    closing = λ was. was;
    numbered = λ between. between;
    witnesses = λ between first witnessed.
        subst (λ what. AreWitnessed names now.rows.items (with_seen first what met.witness)) same
        (witnessed-again names now.rows.items between e met.witness found first witnessed);
  }

  -- some were noted, and then others
  seen_then : (first : Dependency → Option Witness) (xs ys : List WitnessedEdge)
      → with_all (with_all first (map (named_dependency batch) xs)) (map (named_dependency batch) ys) ≡ with_all first (map (named_dependency batch) (xs ++ ys))
  seen_then first xs ys =
      sym (fold-append (λ (before : Dependency → Option Witness) (m : Met Dependency). with_seen before m.what m.witness) first (map (named_dependency batch) xs) (map (named_dependency batch) ys))
      ∙ ap (with_all first) (sym (map-append (named_dependency batch) xs ys))

  noted_then : (xs ys : List WitnessedEdge) (old mid new : Dependencies) → AreNoted names batch xs old mid → AreNoted names batch ys mid new → AreNoted names batch (xs ++ ys) old new
  noted_then xs ys old mid new first next = record {
    classes = next.classes ∙ first.classes;
    spare_edges = omega (arith, first.spare_edges, next.spare_edges, length-append xs ys);
    spare_rows = λ n room. next.spare_rows n (first.spare_rows (n + length ys) (omega (arith, room, length-append xs ys)));
    front = edges_stay old.rows.items mid.rows.items new.rows.items first.front next.front;
    further = further-then old.reach mid.reach new.reach first.further next.further;
    exact = λ state seeds is. next.exact state seeds (first.exact state seeds is);
    closing = λ was. next.closing (first.closing was);
    numbered = λ between. next.numbered (first.numbered between);
    witnesses = λ between known witnessed.
        subst (AreWitnessed names new.rows.items) (seen_then known xs ys)
        (next.witnesses (first.numbered between) (with_all known (map (named_dependency batch) xs)) (first.witnesses between known witnessed));
  }

  -- while they are noted
  pub noting_none : (told : List WitnessedEdge) (now : Dependencies) → IsNoting names batch told told now now
  noting_none told now = record { before = []; parts = refl; noted = noted_none now }

  module _ (told : List WitnessedEdge) (old : Dependencies) where
    pub noting_then : (part left : List WitnessedEdge) (mid new : Dependencies) → IsNoting names batch told (part ++ left) old mid → AreNoted names batch part mid new → IsNoting names batch told left old new
    noting_then part left mid new so_far next = record {
      before = so_far.before ++ part;
      parts = append_assoc so_far.before part left ∙ so_far.parts;
      noted = noted_then so_far.before part old mid new so_far.noted next;
    }

    pub noting_all : (new : Dependencies) → IsNoting names batch told [] old new → AreNoted names batch told old new
    noting_all new so_far = subst (λ these. AreNoted names batch these old new) (sym (append-nil so_far.before) ∙ so_far.parts) so_far.noted

    module _ (left : List WitnessedEdge) (new : Dependencies) (so_far : IsNoting names batch told left old new) where
      many : length told ≡ length so_far.before + length left
      many = sym (ap length so_far.parts) ∙ length-append so_far.before left

      -- there is room for those that are left
      pub room_edges : length told ≤ old.graph.spare_edges → length left ≤ new.graph.spare_edges
      room_edges room = let more = so_far.noted.spare_edges in omega (arith, room, many, more)

      pub room_rows : vec_len old.rows + length told ≤ vec_capacity old.rows → vec_len new.rows + length left ≤ vec_capacity new.rows
      room_rows room = so_far.noted.spare_rows (length left) (omega (arith, room, many))

      -- what is of all is of those that are left
      pub All_left : (P : WitnessedEdge → Type 0) → All P told → All P left
      All_left P all = subst (All P) (drop-append_seam so_far.before left) (All-drop P (length so_far.before) (so_far.before ++ left) (subst (All P) (sym so_far.parts) all))

-- what is of all is of the first of them
pub All-first : {X : Type 0} (P : X → Type 0) (xs ys : List X) → All P (xs ++ ys) → All P xs
All-first P xs ys all k d within = subst P (get_or_append_left xs ys d k within) (all k d (omega (arith, within, length-append xs ys)))

-- Where no two are of the same dependency, each witness is the first one.
joined_first : (before : Option Witness) (m : Met Dependency) (b : Bool) (found : Option (Met Dependency)) → (b ≡ true → found ≡ None)
    → earlier_of (earlier_of before (if b then Some m.witness else None)) (option_map (λ m. m.witness) found)
    ≡ earlier_of before (option_map (λ m. m.witness) (cond b (Some m) found))
joined_first before m true found new =
    ap (λ (f : Option (Met Dependency)). earlier_of (earlier_of before (Some m.witness)) (option_map (λ m. m.witness) f)) (new refl)
    ∙ sym (earlier_of-none (earlier_of before (Some m.witness)))
joined_first before m false found new = ap (λ r. earlier_of r (option_map (λ (m : Met Dependency). m.witness) found)) (sym (earlier_of-none before))

module _ {R : Type 0} (name : R → Met Dependency) where
  pub all_once : (rows : List R) → AllPairs (λ d e. (name d).what ≢ (name e).what) rows → (first : Dependency → Option Witness) (what : Dependency)
      → with_all first (map name rows) what ≡ earlier_of (first what) (witness_of same_dependency (map name rows) what)
  all_once [] once first what = earlier_of-none (first what)
  all_once (row ∷ rows) once first what =
      all_once rows (λ i j d before within. once (suc i) (suc j) d (omega (arith, before)) (omega (arith, within))) (with_seen first (name row).what (name row).witness) what
      ∙ joined_first (first what) (name row) (same_dependency what (name row).what) (find (λ m. same_dependency what m.what) (map name rows)) none
    where
      none : same_dependency what (name row).what ≡ true → find (λ m. same_dependency what m.what) (map name rows) ≡ None
      none alike =
          ap (λ these. find (λ (m : Met Dependency). same_dependency what m.what) (map name these)) (sym (take_all (length rows) rows (omega arith)))
          ∙ none_found (λ m. same_dependency what m.what) name (length rows) rows row
          (λ k low within. false_from_ne_true (same_dependency what (name (get_or rows k row)).what) (λ other. once 0 (suc k) row (omega arith) (omega (arith, within))
          (sym (same_dependency-true what (name row).what alike) ∙ same_dependency-true what (name (get_or rows k row)).what other)))
