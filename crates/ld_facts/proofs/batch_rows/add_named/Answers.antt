use Rattle.std.proofs.Common.{◌≡◌, ◌≤◌, ◌+◌, All, true, length, take, get_or, nat_eq, ap, sym, subst, ◌∙◌, arith}
use Rattle.std.proofs.lemmas.List.{length-map, length-take-le, take_more}
use Rattle.std.proofs.lemmas.List.Elements.{All-push, All-weaker}
use Rattle.std.specs.List.{list_any}
use Rattle.ld_class.specs.declared.names.TheConstants.{MOST_NAMES}
use Rattle.ld_class.specs.Names.{no_class}
use Rattle.ld_facts.specs.Inner.Scan.{names_at}
use Rattle.ld_facts.proofs.StandsLemmas.{take-first}
use Rattle.ld_batch.proofs.NameLemmas.{longer_all}
use Rattle.ld_facts.proofs.RowLemmas.{first_there, with_names-more}
use Rattle.ld_facts.proofs.batch_rows.add_named.Goals as goal

pub add_one-requires-clause-room : goal.add_one-requires-clause-room
add_one-requires-clause-room c =
    let part = names_at c.args.known.now (take c.loop-number.number-index c.args.own.now) in
    let longer = longer_all c.args.names.now part in
    let room : length c.args.names.now + length c.args.own.now ≤ MOST_NAMES = c.requires.room in
    let many : length part ≡ c.loop-number.number-index = length-map (take c.loop-number.number-index c.args.own.now) (λ n. get_or c.args.known.now n no_class)
    ∙ length-take-le c.loop-number.number-index c.args.own.now (omega (arith, c.loop-number-test.true)) in
    omega (arith, longer.most, ap length c.loop-number.invariant.made, many, room, c.loop-number-test.true)

pub loop-number-preserved : goal.loop-number-preserved
loop-number-preserved c =
    let so_far = c.loop-number.invariant in
    let own = c.args.own.now in
    let i = c.loop-number.number-index in
    record {
      counted = so_far.counted;
      made = with_names-more c.args.known.now c.args.names.now c.loop-number.names c.add_one.new.names own i _ c.loop-number-test.true so_far.made c.in-Ok.ensures.names;
      same = c.in-Ok.ensures.same;
      there = subst (All (λ n. list_any (nat_eq n) c.add_one.new.numbers ≡ true)) (sym (take_more own i _ c.loop-number-test.true))
          (All-push (λ n. list_any (nat_eq n) c.add_one.new.numbers ≡ true) (take i own) _
          (All-weaker (λ n. list_any (nat_eq n) c.loop-number.numbers ≡ true) (λ n. list_any (nat_eq n) c.add_one.new.numbers ≡ true)
          (first_there c.loop-number.numbers c.add_one.new.numbers c.add_one.ensures.front) (take i own) so_far.there)
          c.in-Ok.ensures.there);
      front = take-first c.args.numbers.now c.loop-number.numbers c.add_one.new.numbers so_far.front c.add_one.ensures.front;
      first = take-first c.args.names.now c.loop-number.names c.add_one.new.names so_far.first c.add_one.ensures.first;
    }
