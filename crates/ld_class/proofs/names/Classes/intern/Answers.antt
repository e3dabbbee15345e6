use Rattle.std.proofs.Common.{◌≡◌, ◌∙◌, Ok, true, ap, sym, arith}
use Rattle.std.specs.List.{list_any, position_or_len}
use Rattle.std.proofs.lemmas.Bool.{true≢false}
use Rattle.std.proofs.lemmas.Grind.{common_steps}
use Rattle.ld_class.specs.Names.{no_class, plain_class, same_class, with_name}
use Rattle.ld_class.proofs.AnyNames.{search_end, search_end-known, search_end-new, with_one-at}
use Rattle.ld_class.proofs.NameLemmas.{list_any-known, same_class-Decides}
use Rattle.ld_class.proofs.Shown.{shown, AreDistinct-shown, insert_key-shown, list_any-shown}
use Rattle.ld_class.proofs.Shown.{position_or_len-shown}
use Rattle.ld_class.proofs.names.Classes.intern.Goals as goal

-- the set answered where a search for the name ends in the names as they were
ends_at : (c : goal.In_ok-place)
    → c.in_ok-place.place
    ≡ search_end same_class no_class same_class-Decides c.args.self.now (plain_class c.args.name)
ends_at c =
    let name = plain_class c.args.name in
    c.in_ok-place.ensures.index ∙ position_or_len-shown c.self.inside.names.keys name
    ∙ ap (position_or_len (same_class name)) c.self.view_is

pub returns-in_err-place-clause-known : goal.returns-in_err-place-clause-known
returns-in_err-place-clause-known c id known =
    let name = plain_class c.args.name in
    let there : list_any (same_class name) (shown c.self.inside.names.keys) ≡ true =
    ap (list_any (same_class name)) c.self.view_is ∙ list_any-known c.args.self.now name id known in
    let absent = list_any-shown c.self.inside.names.keys name ∙ c.in_err-place.ensures.absent in
    absurd (true≢false (sym there ∙ absent))

pub invariant_of-self-2 : goal.invariant_of-self-2
invariant_of-self-2 c = (
  grind (arith, common_steps),
  AreDistinct-shown c.insert_full.new.self.keys c.in_ok-place.ensures.unique,
)

pub returns-clause-names : goal.returns-clause-names
returns-clause-names c =
    ap shown c.in_ok-place.ensures.keys ∙ insert_key-shown c.self.inside.names.keys c.args.name
    ∙ ap (λ names. with_name names (plain_class c.args.name)) c.self.view_is

pub returns-clause-place : goal.returns-clause-place
returns-clause-place c =
    rw (returns-clause-names c, ends_at c)
    (with_one-at same_class no_class same_class-Decides c.args.self.now (plain_class c.args.name))

pub returns-clause-known : goal.returns-clause-known
returns-clause-known c id known =
    ap Ok (ends_at c ∙ search_end-known same_class no_class same_class-Decides c.args.self.now
    (plain_class c.args.name) id known)

pub returns-clause-added : goal.returns-clause-added
returns-clause-added c new =
    ends_at c ∙ search_end-new same_class no_class same_class-Decides c.args.self.now
    (plain_class c.args.name) new
