-- Each line is what the definition says of it.
use Rattle.std.proofs.Common.{◌≡◌, ◌++◌, [], map, arith, sym, ◌∙◌, true, false}
use Rattle.std.proofs.lemmas.Result.{err_from_is_err_and}
use Rattle.std.specs.List.{cons_option}
use Rattle.std.specs.Option.{option_map}
use Rattle.ld_layout.specs.Fields.{plain}
use Rattle.ld_layout.specs.Lines.{lines}
use Rattle.ld_layout.specs.Texts.{fields_from, is_print}
use Rattle.ld_layout.proofs.FieldsLemmas.{ended, fails, goes_on, printed}
use Rattle.ld_layout.proofs.fields.read_fields.Goals as goal

pub returns-then-starts_with : goal.returns-then-starts_with
returns-then-starts_with c =
    let print : is_print c.in-Some.line.now ≡ true = sym c.starts_with.ensures.value ∙ c.if-starts_with.true in
    printed (map plain c.loop-line.fields.items) c.loop-line.number c.in-Some.line.now (lines c.in-Some.after.now) (lines c.loop-line.rest.now)
    (fields_from c.args.first (lines c.args.text.now)) c.in-Some.ensures.first print c.loop-line.invariant.told

pub returns-in_err-found : goal.returns-in_err-found
returns-in_err-found c =
    let print : is_print c.in-Some.line.now ≡ false = sym c.starts_with.ensures.value ∙ c.if-starts_with.false in
    let p = err_from_is_err_and c.from_residual.result c.from_residual.ensures.1 in
    rw (p.1, p.2) (fails c.in_err-found.field-0.0 (map plain c.loop-line.fields.items) c.loop-line.number c.in-Some.line.now (lines c.in-Some.after.now) (lines c.loop-line.rest.now)
    (fields_from c.args.first (lines c.args.text.now)) c.in-Some.ensures.first print c.in_err-found.ensures c.loop-line.invariant.told)

pub loop-line-preserved : goal.loop-line-preserved
loop-line-preserved c =
    let print : is_print c.in-Some.line.now ≡ false = sym c.starts_with.ensures.value ∙ c.if-starts_with.false in
    let found = option_map plain c.in_ok-found.found in
    let kept : map plain c.keep.new.fields.items ≡ map plain c.loop-line.fields.items ++ cons_option found [] = c.in_ok-keep.ensures in
    record {
      told = rw kept (goes_on (map plain c.loop-line.fields.items) c.loop-line.number c.in-Some.line.now (lines c.in-Some.after.now) (lines c.loop-line.rest.now) found
          (fields_from c.args.first (lines c.args.text.now)) c.in-Some.ensures.first print c.in_ok-found.ensures c.loop-line.invariant.told);
      within = omega (arith, c.in-Some.ensures.shorter, c.loop-line.invariant.within);
    }

pub returns : goal.returns
returns c = ended (map plain c.loop-line.fields.items) c.loop-line.number (lines c.loop-line.rest.now) (fields_from c.args.first (lines c.args.text.now)) c.in_default.ensures.first c.loop-line.invariant.told
