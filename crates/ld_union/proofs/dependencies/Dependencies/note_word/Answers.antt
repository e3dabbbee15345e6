use Rattle.std.proofs.Common.{◌≡◌, ◌⊎◌, inl, inr, ◌+◌, ◌*◌, ◌^◌, ◌<◌, ◌∷◌, [], All, List, true, ℕ, ap, arith, get_or, length, subst, sym, w64, ◌∙◌}
use Rattle.std.proofs.lemmas.Bool.{OnTrue_at}
use Rattle.std.proofs.lemmas.List.Elements.{All-head}
use Rattle.std.specs.Int.{trailing_zeros}
use Rattle.std.specs.List.{list_any}
use Rattle.ld_class.specs.Names.{PlainClass, no_class}
use Rattle.ld_batch.specs.Batch.{IsBetween, named_dependency}
use Rattle.ld_batch.specs.declared.rows.WitnessedEdge.{WitnessedEdge}
use Rattle.ld_batch.specs.declared.rows.WitnessedWord.{WitnessedWord}
use Rattle.ld_batch.specs.Inner.Rows.{edges_in}
use Rattle.ld_batch.proofs.EdgeLemmas.{but_lowest, edge_by, edges-first, edges-none, many-in, with_bits}
use Rattle.ld_union.specs.declared.dependencies.Dependencies.{Dependencies}
use Rattle.ld_graph.specs.declared.Edge.{Edge}
use Rattle.ld_union.specs.Inner.Earlier.{IsKnownEarlier, is_earlier}
use Rattle.ld_union.specs.Inner.Noted.{AreNoted, IsNoting}
use Rattle.ld_union.specs.Inner.Union.{AreWitnessed, named_edge, with_seen}
use Rattle.ld_union.proofs.NotedLemmas.{All_left, all_edges, noted_again, noted_none, noting_all, noting_none, noting_then, room_edges, room_rows}
use Rattle.ld_union.proofs.dependencies.Dependencies.note_word.Goals as goal
use Rattle.ld_union.proofs.dependencies.Dependencies.note_word.Goals.{then-not-has, else-not-has}

-- Some bits are left.
module _ (by : List ℕ) (names batch : List PlainClass) (word : WitnessedWord) (left : ℕ) (some : 0 < left) (low : left < 2 ^ 64) where
  abbrev here : WitnessedEdge
  here = edge_by by word.to word.witness (64 * word.block + trailing_zeros w64 left)

  abbrev behind : List WitnessedEdge
  behind = edges_in by (with_bits word (but_lowest left))

  first : edges_in by (with_bits word left) ≡ here ∷ behind
  first = edges-first by (with_bits word left) some low

  between : (old now : Dependencies) → IsNoting names batch (edges_in by word) (edges_in by (with_bits word left)) old now → All (IsBetween batch) (edges_in by word) → IsBetween batch here
  between old now so_far all =
      All-head (IsBetween batch) here behind
      (subst (All (IsBetween batch)) first (All_left names batch (edges_in by word) old (edges_in by (with_bits word left)) now so_far (IsBetween batch) all))

pub returns-then-word-eq0 : goal.returns-then-word-eq0
returns-then-word-eq0 c =
    subst (λ (told : List WitnessedEdge). AreNoted c.args.names.now c.args.classes.now told c.args.self.now c.args.self.now)
    (sym (edges-none c.args.words.now.places.now c.args.word c.if-word-eq0.true)) (noted_none c.args.names.now c.args.classes.now c.args.self.now)

pub place_in-to-requires-clause-within : goal.place_in-to-requires-clause-within
place_in-to-requires-clause-within c =
    let some : 0 < c.args.word.bits = omega (arith, c.if-word-eq0.false) in
    let by = c.args.words.now.places.now in
    let here = between by c.args.names.now c.args.classes.now c.args.word c.args.word.bits some (omega arith) c.args.self.now c.args.self.now
    (noting_none c.args.names.now c.args.classes.now (edges_in by c.args.word) c.args.self.now) c.requires.between in
    rw c.place.ensures here.1

pub loop-left-init : goal.loop-left-init
loop-left-init c = noting_none c.args.names.now c.args.classes.now (edges_in c.args.words.now.places.now c.args.word) c.args.self.now

pub place_in-from-requires-clause-within : goal.place_in-from-requires-clause-within
place_in-from-requires-clause-within c =
    let some : 0 < c.loop-left.left = omega (arith, c.loop-left-test.true) in
    let here = between c.args.words.now.places.now c.args.names.now c.args.classes.now c.args.word c.loop-left.left some (omega arith) c.args.self.now c.loop-left.self c.loop-left.invariant c.requires.between in
    rw c.place-in-loop-left.ensures here.0

pub note-requires-clause-from : goal.note-requires-clause-from
note-requires-clause-from c = omega (arith, c.place_in-from.ensures.0, c.requires.count, c.loop-left.invariant.noted.classes)

pub note-requires-clause-to : goal.note-requires-clause-to
note-requires-clause-to c = omega (arith, c.place_in-to.ensures.0, c.requires.count, c.loop-left.invariant.noted.classes)

pub note-requires-clause-spare_edges : goal.note-requires-clause-spare_edges
note-requires-clause-spare_edges c =
    let some : 0 < c.loop-left.left = omega (arith, c.loop-left-test.true) in
    let by = c.args.words.now.places.now in
    let word = c.args.word in
    let names = c.args.names.now in
    let batch = c.args.classes.now in
    let room = room_edges names batch (edges_in by word) c.args.self.now (edges_in by (with_bits word c.loop-left.left)) c.loop-left.self c.loop-left.invariant c.requires.spare_edges in
    omega (arith, room, ap length (first by names batch word c.loop-left.left some (omega arith)))

pub note-requires-clause-spare_rows : goal.note-requires-clause-spare_rows
note-requires-clause-spare_rows c =
    let some : 0 < c.loop-left.left = omega (arith, c.loop-left-test.true) in
    let by = c.args.words.now.places.now in
    let word = c.args.word in
    let names = c.args.names.now in
    let batch = c.args.classes.now in
    let room = room_rows names batch (edges_in by word) c.args.self.now (edges_in by (with_bits word c.loop-left.left)) c.loop-left.self c.loop-left.invariant c.requires.spare_rows in
    omega (arith, room, ap length (first by names batch word c.loop-left.left some (omega arith)))

pub loop-left-smaller : goal.loop-left-smaller
loop-left-smaller c =
    let some : 0 < c.loop-left.left = omega (arith, c.loop-left-test.true) in
    let by = c.args.words.now.places.now in
    let word = c.args.word in
    omega (
      arith,
      ap length (first by c.args.names.now c.args.classes.now word c.loop-left.left some (omega arith)),
      many-in by (with_bits word c.loop-left.left),
      many-in by (with_bits word (but_lowest c.loop-left.left)),
    )

pub invariant_of-self : goal.invariant_of-self
invariant_of-self c = record {
  same_edges = c.note.new.self.same_edges;
  counted = c.note.new.self.counted;
  seen_earlier = λ e n is. by e n (c.add.ensures e n is);
}
  where
    by : (e : Edge) (n : ℕ) → IsKnownEarlier c.note.new.self.earlier e n ⊎ ((e ≡ record { from = c.place_in-from.result; to = c.place_in-to.result }) × (c.args.word.witness.number < n))
        → list_any (is_earlier e n) c.note.new.self.rows.items ≡ true
    by e n (inl before) = c.note.new.self.seen_earlier e n before
    by e n (inr here) = subst (λ x. list_any (is_earlier x n) c.note.new.self.rows.items ≡ true) (sym here.0) (c.note.ensures.there n here.1)

pub loop-left-preserved : goal.loop-left-preserved
loop-left-preserved c =
    let some : 0 < c.loop-left.left = omega (arith, c.loop-left-test.true) in
    let low : c.loop-left.left < 2 ^ 64 = omega arith in
    let by = c.args.words.now.places.now in
    let names = c.args.names.now in
    let batch = c.args.classes.now in
    let word = c.args.word in
    let left = c.loop-left.left in
    let mid = c.loop-left.self in
    let met = here by names batch word left some low in
    let edge : Edge = record { from = c.place_in-from.result; to = c.place_in-to.result } in
    let count : length names ≡ mid.graph.classes = c.requires.count ∙ sym c.loop-left.invariant.noted.classes in
    let same : named_edge names edge ≡ (named_dependency batch met).what =
    (λ i. record {
      from = (c.place_in-from.ensures.1 ∙ ap (λ n. get_or batch n no_class) c.place-in-loop-left.ensures) i;
      to = (c.place_in-to.ensures.1 ∙ ap (λ n. get_or batch n no_class) c.place.ensures) i;
    }) in
    noting_then names batch (edges_in by word) c.args.self.now (met ∷ []) (behind by names batch word left some low) mid c.if-not-has.self
    (subst (λ edges. IsNoting names batch (edges_in by word) edges c.args.self.now mid) (first by names batch word left some low) c.loop-left.invariant)
    (elim c.if-not-has.branch as (λ _. AreNoted names batch (met ∷ []) mid c.if-not-has.self) [
      | then-not-has w ↦
          let noted = w.note.ensures in
          subst (AreNoted names batch (met ∷ []) mid) (sym w.self-is) (record {
            classes = noted.classes;
            spare_edges = omega (arith, noted.spare_edges);
            spare_rows = λ n room. noted.spare_rows n (omega (arith, room));
            front = noted.front (length mid.rows.items) (omega arith) ∙ all_edges mid.rows.items;
            further = noted.further;
            exact = noted.exact;
            closing = noted.closing;
            numbered = noted.numbered names count;
            witnesses = λ between before witnessed.
                subst (λ what. AreWitnessed names w.note.new.self.rows.items (with_seen before what word.witness)) same
                (noted.noted names count between before witnessed);
          })
      | else-not-has w ↦
          subst (AreNoted names batch (met ∷ []) mid) (sym w.self-is)
          (noted_again names batch mid met edge same (mid.seen_earlier edge word.witness.number (OnTrue_at w.if-not-has.false c.has.ensures)))
    ])

pub returns : goal.returns
returns c =
    let by = c.args.words.now.places.now in
    let names = c.args.names.now in
    let batch = c.args.classes.now in
    let word = c.args.word in
    noting_all names batch (edges_in by word) c.args.self.now c.loop-left.self
    (subst (λ edges. IsNoting names batch (edges_in by word) edges c.args.self.now c.loop-left.self) (edges-none by (with_bits word c.loop-left.left) c.loop-left-test.false) c.loop-left.invariant)
