use Rattle.std.proofs.Common.{◌++◌, ◌∙◌, ap, codes, decimal}
use Rattle.ld_printed.specs.Printed.{bit, held_text, hex, mode_text}
use Rattle.ld_printed.proofs.PieceLemmas.{first, then_one, then_two}
use Rattle.ld_printed.proofs.event.write_acquire.Goals as goal

pub returns : goal.returns
returns c =
    let old = c.args.out.now.items in
    let a = c.args.acquire.now in
    let x1 = codes "acquire: " ++ hex a.lock in
    let h1 = first old (codes "acquire: ") (hex a.lock) (c.in_ok-write_hex.ensures) in
    let x2 = x1 ++ codes " k=" ++ hex a.key in
    let h2 = then_two old x1 (codes " k=") (hex a.key) h1 (c.in_ok-write_hex-2.ensures) in
    let x3 = x2 ++ codes " s=" ++ decimal a.subclass in
    let h3 = then_two old x2 (codes " s=") (decimal a.subclass) h2 (c.in_ok-write_number.ensures) in
    let x4 = x3 ++ codes " t=" ++ bit a.is_trylock in
    let h4 = then_two old x3 (codes " t=") (bit a.is_trylock) h3 (c.in_ok-write_bit.ensures) in
    let x5 = x4 ++ mode_text a.mode in
    let h5 = then_one old x4 (mode_text a.mode) h4 (c.in_ok-write_words.ensures ∙ ap (λ t. c.write_bit.new.out.items ++ t) c.mode_words.ensures) in
    let x6 = x5 ++ codes " c=" ++ bit a.is_checked in
    let h6 = then_two old x5 (codes " c=") (bit a.is_checked) h5 (c.in_ok-write_bit-2.ensures) in
    let x7 = x6 ++ codes " n=" ++ hex a.nest in
    let h7 = then_two old x6 (codes " n=") (hex a.nest) h6 (c.in_ok-write_hex-3.ensures) in
    let x8 = x7 ++ held_text a.held in
    let h8 = then_one old x7 (held_text a.held) h7 (c.in_ok-write_held.ensures) in
    let x9 = x8 ++ codes " y=" ++ hex a.key in
    let h9 = then_two old x8 (codes " y=") (hex a.key) h8 (c.in_ok-write_hex-4.ensures) in
    let x10 = x9 ++ codes " i=" ++ hex a.caller in
    let h10 = then_two old x9 (codes " i=") (hex a.caller) h9 (c.in_ok-write_hex-5.ensures) in
    let x11 = x10 ++ codes " " in
    let h11 = then_one old x10 (codes " ") h10 (c.in_ok-write_words-2.ensures) in
    let x12 = x11 ++ a.name.now in
    let h12 = then_one old x11 (a.name.now) h11 (c.in_ok-extend_from_slice.ensures.items) in
    h12
