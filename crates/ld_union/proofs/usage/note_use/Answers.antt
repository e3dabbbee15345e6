use Rattle.std.proofs.Common.{◌<◌, get_or, refl, subst}
use Rattle.std.proofs.lemmas.Bool.{OnFalse_at, OnTrue_at}
use Rattle.ld_class.specs.Names.{no_class}
use Rattle.ld_rules.specs.Usage.{bit_of}
use Rattle.ld_union.specs.Inner.Union.{of_class}
use Rattle.ld_union.proofs.DeltaLemmas.{tells-known, tells-new}
use Rattle.ld_union.proofs.UsageLemmas.{length_used, row_at, used-seen}
use Rattle.ld_union.proofs.usage.note_use.Goals as goal

pub returns-then-note-clause-used : goal.returns-then-note-clause-used
returns-then-note-clause-used c classes distinct first used =
    let rows = c.args.rows.now in
    let shown = c.args.shown in
    let within : shown.class < _ = subst (λ n. shown.class < n) (length_used classes rows first used) c.requires.class in
    used-seen classes rows first used distinct shown.class within (bit_of shown.bit) c.args.witness c.note.new.self
    (c.note.ensures.noted (of_class first (get_or classes shown.class no_class)) (row_at classes rows first used shown.class _ within))

pub returns-else-note-clause-used : goal.returns-else-note-clause-used
returns-else-note-clause-used c classes distinct first used =
    let rows = c.args.rows.now in
    let shown = c.args.shown in
    let within : shown.class < _ = subst (λ n. shown.class < n) (length_used classes rows first used) c.requires.class in
    used-seen classes rows first used distinct shown.class within (bit_of shown.bit) c.args.witness c.note.new.self
    (c.note.ensures.noted (of_class first (get_or classes shown.class no_class)) (row_at classes rows first used shown.class _ within))

pub returns-then-note-clause-told : goal.returns-then-note-clause-told
returns-then-note-clause-told c before tells =
    let rows = c.args.rows.now in
    let shown = c.args.shown in
    rw c.push_reserved.ensures.items
    (tells-new before rows c.args.bits.now.items tells shown.class _ c.note.new.self c.requires.class shown.bit c.requires.bit
    c.note.ensures.bits shown refl (OnTrue_at c.if-note.true c.note.ensures.new))

pub returns-else-note-clause-told : goal.returns-else-note-clause-told
returns-else-note-clause-told c before tells =
    let rows = c.args.rows.now in
    let shown = c.args.shown in
    tells-known before rows c.args.bits.now.items tells shown.class _ c.note.new.self c.requires.class shown.bit c.requires.bit c.note.ensures.bits (OnFalse_at c.if-note.false c.note.ensures.known)
