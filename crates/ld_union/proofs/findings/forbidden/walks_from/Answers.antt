use Rattle.std.proofs.Common.{◌≡◌, ◌<◌, ◌≤◌, All, Contains, ◌∙◌, ◌∷◌, ◌++◌, [], ℕ, List, arith, length, map, subst, sym, ap}
use Rattle.std.proofs.lemmas.List.{append-nil, append_assoc, get_or_default, map-append}
use Rattle.std.proofs.lemmas.List.Elements.{All-push, Contains-get_or}
use Rattle.ld_class.specs.Names.{PlainClass}
use Rattle.ld_graph.specs.Edges.{ComesBefore, IsEdge}
use Rattle.ld_graph.specs.Lists.{IsNear}
use Rattle.ld_graph.specs.Walks.{IsShownWalk}
use Rattle.ld_rules.specs.Union.{use_witness}
use Rattle.ld_rules.specs.Usage.Bit.{On}
use Rattle.ld_tree.proofs.ClimbLemmas.{found_where_led}
use Rattle.ld_union.specs.Findings.{IsBefore, IsPairBefore}
use Rattle.ld_union.specs.Inner.ByName.{class_at, class_name, name_at}
use Rattle.ld_union.specs.Inner.Rows.{IsEndRowOf, IsPassed, IsRowIn, ends_of}
use Rattle.ld_union.specs.Inner.Bits.{HasBitAt}
use Rattle.ld_union.specs.Inner.Union.{edges_of}
use Rattle.ld_union.specs.Inner.Walks.{IsWithin, NumberedWalk, walk_row}
use Rattle.ld_union.specs.Usage.{bits_of}
use Rattle.ld_union.specs.Violations.{HasBit, IsForbidden}
use Rattle.ld_union.proofs.ByNameLemmas.{names-rise}
use Rattle.ld_union.proofs.LeadingLemmas.{HasWalk-leading, IsShownWalk-leading, found-once, found-within}
use Rattle.ld_union.proofs.PassedLemmas.{rows-more}
use Rattle.ld_union.proofs.BitLemmas.{bits_from_used}
use Rattle.ld_union.proofs.NumberLemmas.{walk_from_leads}
use Rattle.ld_union.proofs.RowLemmas.{rows-none, rows-one, rows-same}
use Rattle.ld_union.proofs.ShownLemmas.{shown_within}
use Rattle.ld_union.proofs.UsageLemmas.{number_of}
use Rattle.ld_union.proofs.WalkRowLemmas.{row_of_walk}
use Rattle.ld_union.proofs.findings.forbidden.walks_from.Goals as goal
use Rattle.ld_union.proofs.findings.forbidden.walks_from.Goals.{After-deref-place-items}

-- each place that is gone over is that of a class which was found and is held
place_is : (c : After-deref-place-items) → (k : ℕ) → k < length c.deref-place-items.result.now
    → (class_at c.deref-place-items.result.now k < length c.args.indexed.order.now.numbers.items)
    × (Contains c.found.result.now (class_at c.args.indexed.order.now.numbers.items (class_at c.deref-place-items.result.now k))
    × HasBitAt (bits_of c.args.indexed.union.now.usage) (class_at c.args.indexed.order.now.numbers.items (class_at c.deref-place-items.result.now k)) (On c.args.state))
place_is c k within =
    let places = c.deref-place-items.result.now in
    c.in_ok-places.ensures.exact.each (class_at places k)
    (subst (λ ps. Contains ps (class_at places k)) c.deref-place-items.ensures.value (Contains-get_or places k 0 within))

pub places_held-requires-clause-within : goal.places_held-requires-clause-within
places_held-requires-clause-within c = λ x m.
    found-within c.args.first.now.leading.now c.args.first.now.class c.args.first.now.tree.now c.requires.tree (length c.args.indexed.union.now.classes) c.requires.size x
    (subst (λ ns. Contains ns x) c.found.ensures m)

pub places_held-requires-clause-once : goal.places_held-requires-clause-once
places_held-requires-clause-once c =
    rw (c.found.ensures) (found-once c.args.first.now.leading.now c.args.first.now.class c.args.first.now.tree.now c.requires.tree)

pub index-to-requires : goal.index-to-requires
index-to-requires c =
    let place = (place_is (goal.at.index-to-requires c).After-deref-place-items c.loop-place.place-index c.loop-place-test.true).0 in
    omega (arith, place)

pub walk-requires-clause-end : goal.walk-requires-clause-end
walk-requires-clause-end c =
    let numbers = c.args.indexed.order.now.numbers.items in
    let p = class_at c.deref-place-items.result.now c.loop-place.place-index in
    let place = place_is (goal.at.walk-requires-clause-end c).After-deref-place-items c.loop-place.place-index c.loop-place-test.true in
    let to : class_at numbers p ≡ c.index-to.result.now = sym (c.index-to.ensures ∙ get_or_default numbers p c.index-to.result.now 0 place.0) in
    subst (Contains c.args.first.now.tree.now.found) to (subst (λ ns. Contains ns (class_at numbers p)) c.found.ensures place.1.0)

pub loop-place-init : goal.loop-place-init
loop-place-init c = record {
  within = c.requires.within;
  rows = λ sources shows.
      let classes = c.args.indexed.union.now.classes in
      let from = class_name classes c.args.first.now.class in
      let names = λ (k : ℕ). name_at classes c.args.indexed.order.now.numbers.items (class_at c.deref-place-items.result.now k) in
      record {
        more = [];
        grown = sym (append-nil (map (walk_row c.args.indexed.union.now c.args.state) c.args.walks.now));
        are = rows-none ends_of (IsRowIn sources c.args.state) (λ p. IsForbidden sources c.args.state p.0 p.1) IsPairBefore (λ p. (p.0 ≡ from) × IsPassed names 0 p.1)
            (λ p owed here. let low = here.1.1.0 in omega (arith, low));
      };
}

pub loop-place-preserved : goal.loop-place-preserved
loop-place-preserved c =
    let union = c.args.indexed.union.now in
    let leading = c.args.first.now.leading.now in
    let classes = union.classes in
    let numbers = c.args.indexed.order.now.numbers.items in
    let places = c.deref-place-items.result.now in
    let state = c.args.state in
    let a = c.args.first.now.class in
    let b = c.index-to.result.now in
    let i = c.loop-place.place-index in
    let within : i < length places = c.loop-place-test.true in
    let at = (goal.at.loop-place-preserved c).After-deref-place-items in
    let place = place_is at i within in
    let to : b ≡ class_at numbers (class_at places i) = c.index-to.ensures
    ∙ get_or_default numbers (class_at places i) c.index-to.result.now 0 place.0 in
    let low : b < length classes = let l = c.args.indexed.named.within (class_at places i) 0 place.0 in omega (arith, l, to) in
    let held : HasBitAt (bits_of union.usage) b (On state) = subst (λ k. HasBitAt (bits_of union.usage) k (On state)) (sym to) place.1.1 in
    let walk = c.walk.new.walk.items in
    let shown = IsShownWalk-leading (IsNear leading.lists) (IsEdge (edges_of union.dependencies)) (ComesBefore leading.places) b c.requires.leading.real
    (c.requires.leading.leads b low held) a walk c.in_ok-walk.ensures in
    let placed = subst (λ ps. IsShownWalk (IsEdge (edges_of union.dependencies)) (ComesBefore ps) a b walk) c.requires.leading.in_order shown in
    let before = c.loop-place.walks in
    let new : NumberedWalk = record { from = a; to = b; via = walk } in
    let grown : c.push.new.self ≡ before ++ new ∷ [] = c.in_ok-push.ensures
    ∙ ap (λ (via : List ℕ). before ++ (record { from = a; to = b; via = via }) ∷ []) c.deref.ensures.value in
    record {
      within = subst (All (IsWithin (length classes))) (sym grown)
          (All-push (IsWithin (length classes)) before new c.loop-place.invariant.within
          (record {
            from = c.requires.from;
            to = low;
            via = shown_within classes union.dependencies c.requires.leading.numbered leading.places a b walk c.requires.from low shown;
          }));
      rows = λ sources shows.
          let from = class_name classes a in
          let names = λ (k : ℕ). name_at classes numbers (class_at places k) in
          let name : class_name classes b ≡ names i = ap (class_name classes) to in
          let rising : (a b : ℕ) → a < b → b < length places → IsBefore (names a) (names b) = λ a b less low.
          names-rise classes numbers c.args.indexed.order.now.places.items c.args.indexed.named (class_at places a) (class_at places b)
          (subst (λ ps. (m n : ℕ) → m < n → n < length ps → class_at ps m < class_at ps n) (sym c.deref-place-items.ensures.value) c.in_ok-places.ensures.rising a b less low)
          (place_is at b low).0 in
          let old = map (walk_row union state) c.args.walks.now in
          let behind = c.loop-place.invariant.rows sources shows in
          let owed = λ (p : PlainClass × PlainClass). IsForbidden sources state p.0 p.1 in
          let row = walk_row union state new in
          let told = row_of_walk union sources shows numbers c.args.indexed.order.now.places.items c.args.indexed.named state a b walk c.requires.from low
          c.requires.acquired held placed in
          let is : IsEndRowOf sources state from (names i) row = subst (λ n. IsEndRowOf sources state from n row) name told in
          let items : map (walk_row union state) c.push.new.self ≡ map (walk_row union state) before ++ row ∷ [] =
          ap (map (walk_row union state)) grown ∙ map-append (walk_row union state) before (new ∷ []) in
          record {
            more = behind.more ++ row ∷ [];
            grown = items ∙ ap (λ rows. rows ++ row ∷ []) behind.grown ∙ append_assoc old behind.more (row ∷ []);
            are = rows-more names IsBefore (length places) rising ends_of (IsRowIn sources state) owed IsBefore from i behind.more
                (row ∷ []) within behind.are
                (rows-one ends_of (IsRowIn sources state) owed IsPairBefore (from, names i) row is.0 is.1);
          };
    }

pub returns-clause-rows : goal.returns-clause-rows
returns-clause-rows c sources shows =
    let union = c.args.indexed.union.now in
    let leading = c.args.first.now.leading.now in
    let numbers = c.args.indexed.order.now.numbers.items in
    let places = c.deref-place-items.result.now in
    let state = c.args.state in
    let from = class_name union.classes c.args.first.now.class in
    let i = c.loop-place.place-index in
    let past : length places ≤ i = c.loop-place-test.false in
    let names = λ (k : ℕ). name_at union.classes numbers (class_at places k) in
    let behind = c.loop-place.invariant.rows sources shows in
    record {
      more = behind.more;
      grown = behind.grown;
      are = rows-same ends_of (IsRowIn sources state) (λ p. IsForbidden sources state p.0 p.1) IsPairBefore
          (λ p. (p.0 ≡ from) × IsPassed names i p.1) (λ p. p.0 ≡ from) behind.more
          (λ p here. here.0)
          (λ p owed here.
          let at = number_of union.classes union.usage (use_witness sources) shows.used (record { class = p.1; bit = On state }) owed.1 in
          let bit : HasBitAt (bits_of union.usage) at.0 (On state) =
          ((bits_from_used union.classes union.usage sources shows.used).each at.0 (On state) at.1.0).1
          (subst (λ n. HasBit sources n (On state)) (sym at.1.1) owed.1) in
          let walk = walk_from_leads union.classes union.dependencies shows.numbered sources shows.witnesses c.args.first.now.class at.0 p.0 p.1 (c.requires.from, sym here) at.1 owed.2 in
          let led = HasWalk-leading (IsNear leading.lists) (IsEdge (edges_of union.dependencies)) (ComesBefore leading.places) at.0 c.requires.leading.real (c.requires.leading.leads at.0 at.1.0 bit) c.args.first.now.class walk in
          let there = c.in_ok-places.ensures.exact.all at.0
          (subst (λ ns. Contains ns at.0) (sym c.found.ensures) (found_where_led leading c.args.first.now.class c.args.first.now.tree.now c.requires.tree at.0 led)) bit in
          let m = subst (λ ps. Contains ps there.0) (sym c.deref-place-items.ensures.value) there.1.0 in
          let b = m.1 in
          let place : class_at places m.0 ≡ there.0 = get_or_default places m.0 0 there.0 b ∙ m.2 in
          (here, (m.0, (omega (arith, past, b), ap (λ q. name_at union.classes numbers q) place ∙ ap (class_name union.classes) there.1.1 ∙ at.1.1))))
          behind.are;
    }
