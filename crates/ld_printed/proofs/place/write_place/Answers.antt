use Rattle.std.proofs.Common.{◌++◌, ◌∙◌, FitsSigned, ap, codes, rules, w32}
use Rattle.std.proofs.lemmas.Int.{to_z-of_z}
use Rattle.ld_printed.specs.Printed.{columns, task_text, time_text, zeroed}
use Rattle.ld_printed.proofs.PieceLemmas.{then_one}
use Rattle.ld_printed.proofs.place.write_place.Goals as goal

pub returns : goal.returns
returns c =
    let old = c.args.out.now.items in
    let p = c.args.place.now in
    let task_fits : FitsSigned w32 p.task = search rules in
    let x1 = task_text c.args.name.now p.task in
    let h1 = c.in_ok-write_task.ensures ∙ ap (λ z. old ++ task_text c.args.name.now z) (to_z-of_z w32 p.task task_fits) in
    let x2 = x1 ++ codes " [" in
    let h2 = then_one old x1 (codes " [") h1 (c.in_ok-write_words.ensures) in
    let x3 = x2 ++ zeroed 3 p.processor in
    let h3 = then_one old x2 (zeroed 3 p.processor) h2 (c.in_ok-write_processor.ensures) in
    let x4 = x3 ++ codes "] " in
    let h4 = then_one old x3 (codes "] ") h3 (c.in_ok-write_words-2.ensures) in
    let x5 = x4 ++ columns p.context in
    let h5 = then_one old x4 (columns p.context) h4 (c.in_ok-write_columns.ensures) in
    let x6 = x5 ++ codes " " in
    let h6 = then_one old x5 (codes " ") h5 (c.in_ok-write_words-3.ensures) in
    let x7 = x6 ++ time_text c.args.clock p.time in
    let h7 = then_one old x6 (time_text c.args.clock p.time) h6 (c.in_ok-write_time.ensures) in
    let x8 = x7 ++ codes ": " in
    let h8 = then_one old x7 (codes ": ") h7 (c.in_ok-write_words-4.ensures) in
    h8
