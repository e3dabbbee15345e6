-- Others stand behind the bytes, and the bits that are of those are left out.
use Rattle.std.proofs.Common.{◌≡◌, ◌-◌, ◌++◌, length, map, not, ap, sym, take, drop, ◌∙◌, arith, bit_and, ℕ, Bool, List}
use Rattle.std.specs.Char.{is_ascii_graphic}
use Rattle.std.specs.Simd.Lanes.{mask_l}
use Rattle.std.proofs.lemmas.List.{take-append-drop, take_all}
use Rattle.std.proofs.lemmas.Nat.{one_shl}
use Rattle.ld_trace.specs.Inner.Front.{in_name}
use Rattle.ld_trace.proofs.VectorLemmas.{mask-front}
use Rattle.ld_trace.proofs.front.Ends.of_few.Goals as goal

-- the lanes are these bytes and others
lanes : (bytes front : List ℕ) → take (length bytes) front ≡ bytes → front ≡ bytes ++ drop (length bytes) front
lanes bytes front is = sym (take-append-drop (length bytes) front) ∙ ap (λ xs. xs ++ drop (length bytes) front) is

pub returns : goal.returns
returns c =
    let bytes = c.args.bytes.now in
    let front = c.padded-front.result in
    let more = drop (length bytes) front in
    let low = one_shl (length bytes) 64 (omega (arith, c.requires)) in
    let whole = take_all (length bytes) bytes (omega arith) in
    let word : ℕ → Bool = λ b. not (is_ascii_graphic b) in
    let name : ℕ → Bool = λ b. not (in_name b) in
    record {
      few = omega (arith, c.requires);
      within = omega arith;
      words =
          ap (λ k. bit_and c.outside_words.result (k - 1)) low
          ∙ mask-front word bytes more (length bytes) c.outside_words.result (omega arith)
          (c.outside_words.ensures ∙ ap (λ xs. mask_l (map word xs)) (lanes bytes front c.padded-front.ensures))
          ∙ ap (λ xs. mask_l (map word xs)) (sym whole);
      names =
          ap (λ k. bit_and c.outside_names.result (k - 1)) low
          ∙ mask-front name bytes more (length bytes) c.outside_names.result (omega arith)
          (c.outside_names.ensures ∙ ap (λ xs. mask_l (map name xs)) (lanes bytes front c.padded-front.ensures))
          ∙ ap (λ xs. mask_l (map name xs)) (sym whole);
    }
