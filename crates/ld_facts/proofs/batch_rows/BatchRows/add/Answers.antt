use Rattle.std.proofs.Common.{◌+◌, ◌≤◌, ◌++◌, ◌∙◌, All, List, map, drop, length, get_or, ap, sym, subst, arith}
use Rattle.std.proofs.lemmas.List.{length-map}
use Rattle.ld_class.specs.declared.names.TheConstants.{MOST_NAMES}
use Rattle.ld_class.specs.Names.{no_class}
use Rattle.ld_facts.specs.Inner.Scan.{names_at}
use Rattle.ld_facts.specs.Inner.Rows.{IsOwnEdge, IsOwnUse, IsOwnWord, edge_of, edges_at, word_of}
use Rattle.ld_batch.proofs.NameLemmas.{longer_all}
use Rattle.ld_facts.proofs.RowLemmas.{as_many, edges_too, slice_is, told_rest, uses_too}
use Rattle.ld_tables.specs.Inner.Edges.{edges_of}
use Rattle.ld_batch.specs.declared.rows.WitnessedWord.{WitnessedWord}
use Rattle.ld_facts.proofs.WordRowLemmas.{own-words, words-append, words-stay, words-told}
use Rattle.ld_facts.proofs.batch_rows.BatchRows.add.Goals as goal

pub add_uses-requires-clause-few : goal.add_uses-requires-clause-few
add_uses-requires-clause-few c =
    let own = names_at c.args.scan.now.classes c.as_slice-2.result.now in
    let longer = longer_all c.args.self.now.classes own in
    let room : length c.args.self.now.classes + length c.args.scan.now.own ≤ MOST_NAMES = c.requires.room in
    omega (
      arith,
      as_many c.args.scan.now.classes c.add_named.new.numbers c.add_named.new.names c.in_ok-add_named.ensures.same,
      ap length c.in_ok-add_named.ensures.names,
      longer.most,
      length-map c.as_slice-2.result.now (λ n. get_or c.args.scan.now.classes n no_class),
      ap length c.as_slice-2.ensures.same,
      room,
    )

pub add_uses-requires-clause-own : goal.add_uses-requires-clause-own
add_uses-requires-clause-own c =
    let told = uses_too c.as_slice-2.result.now c.add_named.new.numbers c.in_ok-add_named.ensures.there (drop (length c.args.self.now.usage.items) c.args.scan.now.uses)
    (subst (λ own. All (IsOwnUse own) (drop (length c.args.self.now.usage.items) c.args.scan.now.uses)) (sym c.as_slice-2.ensures.same) c.requires.own_uses) in
    subst (All (IsOwnUse c.add_named.new.numbers))
    (sym (slice_is c.as_slice.result.now c.args.scan.now.uses c.len.result (length c.args.self.now.usage.items) c.as_slice.ensures (omega (arith, c.len.ensures)))) told

pub returns-clause-edges : goal.returns-clause-edges
returns-clause-edges c =
    let numbers = c.add_named.new.numbers in
    let words = c.args.self.now.words.items in
    let told = c.told_here-told.result.now in
    let before = length (edges_at c.args.self.now.numbers words) in
    ap (edges_at numbers) (c.add_edges.ensures ∙ ap (λ (ws : List WitnessedWord). ws ++ map (word_of c.args.number) told) c.reserve.ensures.items)
    ∙ words-append numbers words (map (word_of c.args.number) told)
    ∙ (λ i. words-stay c.args.self.now.numbers numbers c.in_ok-add_named.ensures.front words c.requires.own_words i ++ words-told numbers c.args.number told i)
    ∙ (λ i. edges_at c.args.self.now.numbers words ++ map (edge_of numbers c.args.number)
    (sym (told_rest c.args.scan.now.locks.before (edges_of told) c.args.scan.now.locks.edges before c.told_here-told.ensures.told c.requires.so_far) i))

pub returns-clause-own_words : goal.returns-clause-own_words
returns-clause-own_words c =
    let numbers = c.add_named.new.numbers in
    let words = c.args.self.now.words.items in
    let told = c.told_here-told.result.now in
    let before = length (edges_at c.args.self.now.numbers words) in
    let all = edges_too c.as_slice-2.result.now numbers c.in_ok-add_named.ensures.there (drop before c.args.scan.now.locks.edges)
    (subst (λ own. All (IsOwnEdge own) (drop before c.args.scan.now.locks.edges)) (sym c.as_slice-2.ensures.same) c.requires.own_edges) in
    let here = subst (All (IsOwnEdge numbers)) (told_rest c.args.scan.now.locks.before (edges_of told) c.args.scan.now.locks.edges before c.told_here-told.ensures.told c.requires.so_far) all in
    subst (All (IsOwnWord numbers)) (sym (c.add_edges.ensures ∙ ap (λ (ws : List WitnessedWord). ws ++ map (word_of c.args.number) told) c.reserve.ensures.items))
    (own-words c.args.self.now.numbers numbers c.in_ok-add_named.ensures.front words c.args.number told c.requires.own_words c.told_here-told.ensures.low here)

pub returns-clause-own_edges : goal.returns-clause-own_edges
returns-clause-own_edges c =
    edges_too c.as_slice-2.result.now c.add_named.new.numbers c.in_ok-add_named.ensures.there (drop (length (edges_at c.args.self.now.numbers c.args.self.now.words.items)) c.args.scan.now.locks.edges)
    (subst (λ own. All (IsOwnEdge own) (drop (length (edges_at c.args.self.now.numbers c.args.self.now.words.items)) c.args.scan.now.locks.edges)) (sym c.as_slice-2.ensures.same) c.requires.own_edges)

pub returns-clause-own_uses : goal.returns-clause-own_uses
returns-clause-own_uses c =
    uses_too c.as_slice-2.result.now c.add_named.new.numbers c.in_ok-add_named.ensures.there (drop (length c.args.self.now.usage.items) c.args.scan.now.uses)
    (subst (λ own. All (IsOwnUse own) (drop (length c.args.self.now.usage.items) c.args.scan.now.uses)) (sym c.as_slice-2.ensures.same) c.requires.own_uses)
