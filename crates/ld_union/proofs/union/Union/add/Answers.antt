use Rattle.std.proofs.Common.{rules, All, Contains, ◌<◌, ◌≡◌, ◌-◌, ◌++◌, ◌∙◌, [], None, List, ℕ, ap, arith, count_by, drop, false, get_or, length, replicate, subst, sym, take}
use Rattle.std.proofs.lemmas.List.{take_all, with_items_is}
use Rattle.std.specs.Vec.{with_items}
use Rattle.ld_class.specs.Names.{PlainClass}
use Rattle.ld_graph.specs.Edges.{IsEdge, PlainGraph}
use Rattle.ld_graph.specs.Reach.{IsReach}
use Rattle.ld_trace.specs.declared.event.State.{State}
use Rattle.ld_trace.specs.declared.event.State.TheVariants.{Hard, Soft}
use Rattle.ld_rules.specs.Union.{union_classes, use_witness}
use Rattle.ld_union.specs.declared.dependencies.Witnessed.{Witnessed}
use Rattle.ld_union.specs.declared.delta.NewBit.{NewBit}
use Rattle.ld_union.specs.declared.usage.UsageRow.{UsageRow}
use Rattle.ld_batch.specs.Batch.{first_since}
use Rattle.ld_batch.specs.Inner.Names.{AreThere, IsLonger, with_names}
use Rattle.ld_batch.proofs.SinceLemmas.{front-since, least-since}
use Rattle.ld_union.specs.Inner.Delta.{Tells, TellsBits}
use Rattle.ld_union.specs.Inner.Reached.{AreFurther, ExpandsOnce, IsReachOf, IsSeeded, expanded_by, marks_by, reached_by}
use Rattle.ld_union.specs.Inner.States.{of_state}
use Rattle.ld_union.specs.Inner.Union.{Adds, AreBetween, AreUsed, AreWitnessed, IsCycleEdge, PlainUnion, edges_of, with_first}
use Rattle.ld_union.specs.Usage.{bits_of, row_of}
use Rattle.ld_union.proofs.DeltaLemmas.{tells-longer, tells-then, told_within}
use Rattle.ld_union.proofs.ReachedLemmas.{expanded_at, further-spares, further-then, marks_at, reach-seeded, reached_at, source_some, union-kept}
use Rattle.ld_union.proofs.SourceLemmas.{adds-shown}
use Rattle.ld_union.proofs.UnionLemmas.{numbered-longer, witnessed-longer}
use Rattle.ld_union.proofs.UsageLemmas.{used-longer}
use Rattle.ld_union.proofs.union.Union.add.Goals as goal

-- What is known once all was noted.
module _ (c : goal.After-seed_all) where
  abbrev old_rows : List Witnessed
  old_rows = c.self.inside.dependencies.rows.items

  abbrev old_usage : List UsageRow
  old_usage = c.self.inside.usage.items

  abbrev classes : List PlainClass
  classes = c.intern_all.new.names

  abbrev count : ℕ
  count = length c.args.batch.now.classes - length (union_classes c.args.batch.now.behind)

  longer : IsLonger c.self.inside.classes classes count
  longer = subst (IsLonger c.self.inside.classes classes) (λ i. length (c.classes-2.ensures i) - c.classes_behind-behind.ensures.same i) c.in_ok-intern_all.ensures.longer

  names : classes ≡ with_names c.self.inside.classes (drop (length (union_classes c.args.batch.now.behind)) c.args.batch.now.classes)
  names = c.in_ok-intern_all.ensures.names ∙ (λ i. with_names c.self.inside.classes (drop (c.classes_behind-behind.ensures.same i) (c.classes-2.ensures i)))

  there : AreThere classes c.args.batch.now.classes
  there = subst (AreThere classes) c.classes-2.ensures c.in_ok-intern_all.ensures.there

  -- before the dependencies were noted
  rows : c.enter_classes.new.self.rows.items ≡ old_rows
  rows = ap (λ r. r.items) c.enter_classes.ensures.rows ∙ c.in_ok-room.ensures.rows

  entered : length classes ≡ c.enter_classes.new.self.graph.classes
  entered = sym (c.enter_classes.ensures.count ∙ c.len.ensures.len)

  numbered : AreBetween classes c.enter_classes.new.self.rows.items
  numbered = subst (AreBetween classes) (sym rows) (numbered-longer c.self.inside.classes classes old_rows count c.len.ensures.distinct c.self.invariant.numbered longer)

  -- before the usage was noted
  usage : c.deref_mut.result.now ≡ take (length classes) old_usage ++ replicate (length classes - length old_usage) (row_of (λ bit. None))
  usage =
      let room = c.reserve.new.self.ok.0 ∙ ap length c.in_ok-reserve.ensures.items in
      c.deref_mut.ensures.value
      ∙ c.in-Ok.ensures.items
      ∙ (λ i. take (c.len-2.ensures.len i) (c.in_ok-reserve.ensures.items i) ++ replicate (c.len-2.ensures.len i - room i) (c.unused.ensures i))

  written : (with_items c.resize.new.self c.add_usage.new.rows).items ≡ c.add_usage.new.rows
  written = with_items_is c.resize.new.self c.add_usage.new.rows (c.add_usage.ensures.len ∙ ap length c.deref_mut.ensures.value ∙ sym c.resize.new.self.ok.0)

  -- the union before and after
  abbrev before : PlainUnion
  before = record { classes = c.self.inside.classes; dependencies = old_rows; usage = old_usage; reached = reached_by c.self.inside.dependencies.reach; marks = marks_by c.self.inside.dependencies.reach; expanded = expanded_by c.self.inside.dependencies.reach }

  abbrev with_rows : List Witnessed → PlainUnion
  with_rows all = record {
    classes = classes;
    dependencies = all;
    usage = (with_items c.resize.new.self c.add_usage.new.rows).items;
    reached = reached_by c.seed_all.new.self.reach;
    marks = marks_by c.seed_all.new.self.reach;
    expanded = expanded_by c.seed_all.new.self.reach;
  }

  abbrev after : PlainUnion
  after = with_rows c.seed_all.new.self.rows.items

  same_rows : c.add.new.self.rows.items ≡ c.seed_all.new.self.rows.items
  same_rows = sym (ap (λ r. r.items) c.seed_all.ensures.rows)

  tells : TellsBits (bits_of old_usage) (bits_of c.add_usage.new.rows) c.add_usage.new.bits.items
  tells =
      tells-then (bits_of old_usage) (bits_of c.deref_mut.result.now) (bits_of c.add_usage.new.rows) c.add_usage.new.bits.items
      (subst (λ all. TellsBits (bits_of old_usage) (bits_of all) [])
      (ap (λ front. front ++ replicate (length classes - length old_usage) (row_of (λ bit. None)))
      (sym (take_all (length classes) old_usage (omega (arith, c.self.invariant.rows, longer.least)))) ∙ sym usage)
      (tells-longer old_usage (length classes - length old_usage)))
      c.add_usage.ensures.told

  told : TellsBits (bits_of old_usage) (bits_of (with_items c.resize.new.self c.add_usage.new.rows).items) c.add_usage.new.bits.items
  told = subst (λ all. TellsBits (bits_of old_usage) (bits_of all) c.add_usage.new.bits.items) (sym written) tells

  -- what was reached stands in front, and what was expanded stays so
  further : AreFurther c.self.inside.dependencies.reach c.seed_all.new.self.reach
  further =
      further-then c.self.inside.dependencies.reach c.room.new.self.reach c.seed_all.new.self.reach
      (further-spares c.self.inside.dependencies.reach c.room.new.self.reach c.in_ok-room.ensures.hard c.in_ok-room.ensures.soft)
      (further-then c.room.new.self.reach c.enter_classes.new.self.reach c.seed_all.new.self.reach c.enter_classes.ensures.further
      (further-then c.enter_classes.new.self.reach c.add.new.self.reach c.seed_all.new.self.reach c.add.ensures.noted.further c.seed_all.ensures.further))

  -- no class was expanded twice
  once : (state : State) → ExpandsOnce (length classes) (of_state c.seed_all.new.self.reach state)
  once state = subst (λ n. ExpandsOnce n (of_state c.seed_all.new.self.reach state)) (ap (λ (g : PlainGraph). g.classes) c.seed_all.ensures.graph ∙ c.add.ensures.noted.classes ∙ sym entered) (c.seed_all.new.self.counted state)

  counted : (state : State) → of_state c.counts-delta-inside.result state ≡ length (of_state (reached_by c.self.inside.dependencies.reach) state)
  counted Hard = c.counts-delta-inside.ensures.hard
  counted Soft = c.counts-delta-inside.ensures.soft

  -- each reach is exact for the seeds that it had and for those that came
  seeded : (state : State) → IsReachOf (length classes) (edges_of c.add.new.self.rows.items) (bits_of (with_items c.resize.new.self c.add_usage.new.rows).items) state
      (of_state c.seed_all.new.self.reach state)
  seeded state =
      let was = c.self.invariant.reached state in
      let entered_exact = c.enter_classes.ensures.exact (edges_of old_rows) state was.seeds (c.in_ok-room.ensures.exact (edges_of old_rows) state was.seeds was.exact) in
      let added = c.add.ensures.noted.exact state was.seeds
      (subst {A = List Witnessed} (λ all. IsReach (IsEdge (edges_of all)) was.seeds (of_state c.enter_classes.new.self.reach state)) (sym rows) entered_exact) in
      reach-seeded (edges_of c.add.new.self.rows.items) (bits_of old_usage) (bits_of (with_items c.resize.new.self c.add_usage.new.rows).items)
      c.add_usage.new.bits.items told state (length classes) was.seeds was.seeded (of_state c.seed_all.new.self.reach state)
      (once state)
      (subst (λ edges. IsSeeded edges was.seeds state c.add_usage.new.bits.items (of_state c.seed_all.new.self.reach state)) c.add.new.self.same_edges
      (rw (← c.deref.ensures.value) (c.seed_all.ensures.exact state was.seeds
      (subst (λ edges. IsReach (IsEdge edges) was.seeds (of_state c.add.new.self.reach state)) (sym c.add.new.self.same_edges) added))))

pub returns-clause-added : goal.returns-clause-added
returns-clause-added c =
    let these = classes c in
    subst (λ union. Adds c.args.batch.now.behind c.args.batch.now.sources union (after c)) c.self.view_is
    (subst (λ all. Adds c.args.batch.now.behind c.args.batch.now.sources (before c) (with_rows c all)) (same_rows c)
    (adds-shown (before c) (with_rows c c.add.new.self.rows.items) c.args.batch.now c.add.ensures.batch (c.add.ensures.noted.numbered (numbered c)) (names c)
    (λ first witnessed.
    c.add.ensures.witnesses (numbered c) first
    (subst (λ all. AreWitnessed these all first) (sym (rows c))
    (witnessed-longer c.self.inside.classes these (old_rows c) (count c) c.self.invariant.numbered (longer c) first witnessed)))
    (λ first used.
    subst (λ all. AreUsed these all (with_first first (first_since use_witness c.args.batch.now.behind c.args.batch.now.sources))) (sym (written c))
    (c.add_usage.ensures.used c.len.ensures.distinct first
    (subst (λ all. AreUsed these all first) (sym (usage c)) (used-longer c.self.inside.classes (old_usage c) first used these (count c) c.len.ensures.distinct (longer c)))))))

pub returns-clause-told : goal.returns-clause-told
returns-clause-told c =
    let union = c.self.inside in
    let reach = union.dependencies.reach in
    let more = c.seed_all.new.self.reach in
    subst (λ union. Tells union (after c) (record { bits = c.add_usage.new.bits.items; first_reached = c.counts-delta-inside.result })) c.self.view_is (record {
      front =
          (λ i. take (ap length (sym (rows c)) i) (edges_of (sym (same_rows c) i)))
          ∙ c.add.ensures.noted.front
          ∙ ap edges_of (rows c);
      bits = told c;
      reached = counted c;
      still = λ state.
          (λ i. take ((counted c state ∙ ap length (reached_at reach state)) i) (reached_at more state i))
          ∙ (further c state).front
          ∙ sym (reached_at reach state);
      from = λ state class there.
          source_some (length union.classes) (edges_of (old_rows c)) (bits_of (old_usage c)) state (of_state reach state) (c.self.invariant.reached state) class
          (c.counts-delta-inside.ensures.sources state class (subst (λ all. Contains all class) (reached_at reach state) there));
      stays = λ state class on.
          ap (λ marks. get_or marks class false) (marks_at more state)
          ∙ (further c state).stays class (sym (ap (λ marks. get_or marks class false) (marks_at reach state)) ∙ on);
      once = λ state. expanded_at more state ∙ (once c state).each ∙ ap (count_by (λ mark. mark)) (sym (marks_at more state));
    })

pub seed_all-requires-clause-within : goal.seed_all-requires-clause-within
seed_all-requires-clause-within c =
    let rows = c.add_usage.new.rows in
    let told = c.add_usage.new.bits.items in
    let count : length rows ≡ c.add.new.self.graph.classes = omega (
      arith,
      c.add_usage.ensures.len,
      ap length c.deref_mut.ensures.value,
      c.resize.new.self.ok.0,
      c.in-Ok.ensures.len,
      c.len-2.ensures.len,
      c.add.ensures.noted.classes,
      c.enter_classes.ensures.count,
      c.len.ensures.len,
    ) in
    rw c.deref.ensures.value
    (subst (λ n. All (λ (bit : NewBit). bit.class < n) told) count (told_within (bits_of c.deref_mut.result.now) rows told c.add_usage.ensures.told))

pub invariant_of-self : goal.invariant_of-self
invariant_of-self c =
    rw (c.room.ensures.graph, c.room.ensures.rows, c.room.ensures.closing)
    (union-kept c.room.new.self.reach c.self.invariant c.room.new.self.graph.classes (ap (λ (g : PlainGraph). g.classes) c.room.ensures.graph) c.room.new.self.counted (c.room.ensures.exact (edges_of c.self.inside.dependencies.rows.items)))

pub invariant_of-self-in_err-reserve : goal.invariant_of-self-in_err-reserve
invariant_of-self-in_err-reserve c =
    rw (c.room.ensures.graph, c.room.ensures.rows, c.room.ensures.closing, c.in_err-reserve.ensures.items)
    (union-kept c.room.new.self.reach c.self.invariant c.room.new.self.graph.classes (ap (λ (g : PlainGraph). g.classes) c.room.ensures.graph) c.room.new.self.counted (c.room.ensures.exact (edges_of c.self.inside.dependencies.rows.items)))

pub invariant_of-self-in_err-reserve-2 : goal.invariant_of-self-in_err-reserve-2
invariant_of-self-in_err-reserve-2 c =
    rw (c.room.ensures.graph, c.room.ensures.rows, c.room.ensures.closing, c.in_ok-reserve.ensures.items)
    (union-kept c.room.new.self.reach c.self.invariant c.room.new.self.graph.classes (ap (λ (g : PlainGraph). g.classes) c.room.ensures.graph) c.room.new.self.counted (c.room.ensures.exact (edges_of c.self.inside.dependencies.rows.items)))

pub invariant_of-self-in_err-intern_all : goal.invariant_of-self-in_err-intern_all
invariant_of-self-in_err-intern_all c =
    rw (c.room.ensures.graph, c.room.ensures.rows, c.room.ensures.closing, c.in_ok-reserve.ensures.items, c.in_err-intern_all.ensures.refused)
    (union-kept c.room.new.self.reach c.self.invariant c.room.new.self.graph.classes (ap (λ (g : PlainGraph). g.classes) c.room.ensures.graph) c.room.new.self.counted (c.room.ensures.exact (edges_of c.self.inside.dependencies.rows.items)))

pub intern_all-requires-clause-within : goal.intern_all-requires-clause-within
intern_all-requires-clause-within c =
    let batch = c.args.batch.now in
    let least = least-since batch.behind batch.sources in
    omega (arith, least, c.classes_behind-behind.ensures.same, ap length c.classes-2.ensures, ap length c.classes_behind-behind.ensures.exact.classes)

pub intern_all-requires-clause-there : goal.intern_all-requires-clause-there
intern_all-requires-clause-there c =
    let batch = c.args.batch.now in
    subst (AreThere c.self.inside.classes)
    (sym ((λ i. take (c.classes_behind-behind.ensures.same i) ((c.classes-2.ensures ∙ c.classes_behind-behind.ensures.exact.classes) i))
    ∙ front-since batch.behind batch.sources))
    (subst (λ union. AreThere union.classes (union_classes batch.behind)) (sym c.self.view_is) c.requires.there)

pub add-requires-clause-count : goal.add-requires-clause-count
add-requires-clause-count c = sym (c.enter_classes.ensures.count ∙ c.len.ensures.len)

pub add-requires-clause-there : goal.add-requires-clause-there
add-requires-clause-there c = subst (AreThere c.intern_all.new.names) c.classes-2.ensures c.in_ok-intern_all.ensures.there

pub add_usage-requires-clause-count : goal.add_usage-requires-clause-count
add_usage-requires-clause-count c =
    omega (arith, ap length c.deref_mut.ensures.value, c.resize.new.self.ok.0, c.in-Ok.ensures.len, c.len-2.ensures.len)

pub add_usage-requires-clause-there : goal.add_usage-requires-clause-there
add_usage-requires-clause-there c = subst (AreThere c.intern_all.new.names) c.classes-2.ensures c.in_ok-intern_all.ensures.there

pub overflow_sub-new : goal.overflow_sub-new
overflow_sub-new c =
    let batch = c.args.batch.now in
    let least = least-since batch.behind batch.sources in
    omega (arith, least, c.classes_behind-behind.ensures.same, c.len-classes.ensures.len, ap length c.classes.ensures, ap length c.classes_behind-behind.ensures.exact.classes)

pub invariant_of-self-2 : goal.invariant_of-self-2
invariant_of-self-2 c = rw (c.seed_all.ensures.graph, c.seed_all.ensures.rows, c.seed_all.ensures.closing) (record {
  numbered = c.add.ensures.noted.numbered (numbered c);
  few = search rules;
  count = c.add.ensures.noted.classes ∙ sym (entered c);
  rows = omega (arith, ap length (written c), c.add_usage.ensures.len, ap length c.deref_mut.ensures.value, c.resize.new.self.ok.0, c.in-Ok.ensures.len, c.len-2.ensures.len);
  closing = c.add.ensures.noted.closing
      (subst {A = List Witnessed} (λ all. IsCycleEdge (edges_of all) c.enter_classes.new.self.closing) (sym (rows c))
      (subst (IsCycleEdge (edges_of (old_rows c))) (sym (c.enter_classes.ensures.closing ∙ c.in_ok-room.ensures.closing)) c.self.invariant.closing));
  reached = seeded c;
})
