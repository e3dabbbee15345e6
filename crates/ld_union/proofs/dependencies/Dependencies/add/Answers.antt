use Rattle.std.proofs.Common.{◌≡◌, ◌+◌, ◌<◌, ◌≤◌, ◌++◌, All, List, ℕ, ap, arith, drop, get_or, length, subst, sym, vec_capacity, vec_len, ◌∙◌}
use Rattle.std.proofs.lemmas.List.{at_drop_more, drop_all}
use Rattle.std.proofs.Math.ListN.{length-append}
use Rattle.ld_class.specs.Names.{PlainClass}
use Rattle.ld_batch.specs.declared.rows.WitnessedEdge.{WitnessedEdge}
use Rattle.ld_batch.specs.declared.rows.WitnessedWord.{WitnessedWord}
use Rattle.ld_batch.specs.Batch.{IsBetween, named_dependency}
use Rattle.ld_batch.specs.Inner.Names.{AreThere}
use Rattle.ld_batch.specs.Inner.Rows.{edges_in, edges_of}
use Rattle.ld_union.specs.declared.dependencies.Dependencies.{Dependencies}
use Rattle.ld_union.specs.Inner.Noted.{AreNoted, IsNoting}
use Rattle.ld_union.specs.Inner.Union.{AreWitnessed, earlier_of}
use Rattle.ld_union.proofs.NotedLemmas.{All-first, All_left, all_once, noting_all, noting_none, noting_then, room_edges, room_rows}
use Rattle.ld_union.proofs.SeenLemmas.{dependencies_once}
use Rattle.ld_union.proofs.dependencies.Dependencies.add.Goals as goal

abbrev no_word : WitnessedWord
no_word = record { number = 0; block = 0; to = 0; bits = 0; witness = record { number = 0; line = 0 } }

-- Some words are left.
module _ (by : List ℕ) (names batch : List PlainClass) (words : List WitnessedWord) (i : ℕ) (within : i < length words) where
  abbrev word : WitnessedWord
  word = get_or words i no_word

  abbrev behind : List WitnessedEdge
  behind = edges_of by (drop (i + 1) words)

  split : edges_of by (drop i words) ≡ edges_in by word ++ behind
  split = at_drop_more (edges_of by) words i no_word within

  module _ (old now : Dependencies) (so_far : IsNoting names batch (edges_of by words) (edges_of by (drop i words)) old now) where
    between : All (IsBetween batch) (edges_of by words) → All (IsBetween batch) (edges_in by word)
    between all = All-first (IsBetween batch) (edges_in by word) behind
        (subst (All (IsBetween batch)) split (All_left names batch (edges_of by words) old (edges_of by (drop i words)) now so_far (IsBetween batch) all))

    many : length (edges_of by (drop i words)) ≡ length (edges_in by word) + length behind
    many = ap length split ∙ length-append (edges_in by word) behind

    next : (new : Dependencies) → AreNoted names batch (edges_in by word) now new → IsNoting names batch (edges_of by words) behind old new
    next new noted = noting_then names batch (edges_of by words) old (edges_in by word) behind now new
        (subst (λ edges. IsNoting names batch (edges_of by words) edges old now) split so_far) noted

pub loop-word-init : goal.loop-word-init
loop-word-init c = noting_none c.args.names.now c.args.batch.now.classes (edges_of c.words-words.result.places.now c.words-words.result.words.now) c.args.self.now

pub note_word-requires-clause-count : goal.note_word-requires-clause-count
note_word-requires-clause-count c = c.requires.count ∙ sym c.loop-word.invariant.noted.classes

pub note_word-requires-clause-there : goal.note_word-requires-clause-there
note_word-requires-clause-there c = subst (AreThere c.args.names.now) (sym c.classes.ensures) c.requires.there

pub note_word-requires-clause-low : goal.note_word-requires-clause-low
note_word-requires-clause-low c = c.words-words.ensures.low c.loop-word.word-index no_word c.loop-word-test.true

pub note_word-requires-clause-between : goal.note_word-requires-clause-between
note_word-requires-clause-between c =
    let batch = c.args.batch.now in
    let by = c.words-words.result.places.now in
    subst (λ (these : List PlainClass). All (IsBetween these) (edges_in by (get_or c.words-words.result.words.now c.loop-word.word-index no_word))) (sym c.classes.ensures)
    (between by c.args.names.now batch.classes c.words-words.result.words.now c.loop-word.word-index c.loop-word-test.true c.args.self.now c.loop-word.self c.loop-word.invariant
    (subst (All (IsBetween batch.classes)) (sym c.words-words.ensures.same) c.words-words.ensures.exact.within))

pub note_word-requires-clause-spare_edges : goal.note_word-requires-clause-spare_edges
note_word-requires-clause-spare_edges c =
    let by = c.words-words.result.places.now in
    let words = c.words-words.result.words.now in
    let i = c.loop-word.word-index in
    let names = c.args.names.now in
    let batch = c.args.batch.now.classes in
    let few = subst (λ (edges : List WitnessedEdge). length edges ≤ c.args.self.now.graph.spare_edges) (sym c.words-words.ensures.same) c.requires.spare_edges in
    let room = room_edges names batch (edges_of by words) c.args.self.now (edges_of by (drop i words)) c.loop-word.self c.loop-word.invariant few in
    omega (arith, room, many by names batch words i c.loop-word-test.true c.args.self.now c.loop-word.self c.loop-word.invariant)

pub note_word-requires-clause-spare_rows : goal.note_word-requires-clause-spare_rows
note_word-requires-clause-spare_rows c =
    let by = c.words-words.result.places.now in
    let words = c.words-words.result.words.now in
    let i = c.loop-word.word-index in
    let names = c.args.names.now in
    let batch = c.args.batch.now.classes in
    let few : vec_len c.args.self.now.rows + length (edges_of by words) ≤ vec_capacity c.args.self.now.rows = omega (arith, c.requires.spare_rows, ap length c.words-words.ensures.same) in
    let room = room_rows names batch (edges_of by words) c.args.self.now (edges_of by (drop i words)) c.loop-word.self c.loop-word.invariant few in
    omega (arith, room, many by names batch words i c.loop-word-test.true c.args.self.now c.loop-word.self c.loop-word.invariant)

pub loop-word-preserved : goal.loop-word-preserved
loop-word-preserved c =
    let by = c.words-words.result.places.now in
    let words = c.words-words.result.words.now in
    let noted = subst (λ (these : List PlainClass). AreNoted c.args.names.now these (edges_in by (get_or words c.loop-word.word-index no_word)) c.loop-word.self c.note_word.new.self) c.classes.ensures c.note_word.ensures in
    next by c.args.names.now c.args.batch.now.classes words c.loop-word.word-index c.loop-word-test.true c.args.self.now c.loop-word.self c.loop-word.invariant c.note_word.new.self noted

pub returns : goal.returns
returns c =
    let by = c.words-words.result.places.now in
    let words = c.words-words.result.words.now in
    let names = c.args.names.now in
    let batch = c.args.batch.now in
    let old = c.args.self.now in
    let new = c.loop-word.self in
    let exact = c.words-words.ensures.exact in
    let noted : AreNoted names batch.classes batch.edges old new =
    subst (λ (edges : List WitnessedEdge). AreNoted names batch.classes edges old new) c.words-words.ensures.same
    (noting_all names batch.classes (edges_of by words) old new
    (subst (λ these. IsNoting names batch.classes (edges_of by words) (edges_of by these) old new) (drop_all c.loop-word.word-index words c.loop-word-test.false) c.loop-word.invariant)) in
    record {
      batch = exact;
      noted = noted;
      witnesses = λ between first witnessed.
          subst (AreWitnessed names new.rows.items)
          (λ j what. (all_once (named_dependency batch.classes) batch.edges (dependencies_once batch exact) first what
          ∙ ap (earlier_of (first what)) (exact.edges what)) j)
          (noted.witnesses between first witnessed);
    }
