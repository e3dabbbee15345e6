-- One byte of the pattern more.
use Rattle.std.proofs.Common.{◌∙◌, ap, arith, length, sym}
use Rattle.ld_baseline.proofs.MatchLemmas.{byte-later, byte-same, star-ends, star-same}
use Rattle.ld_baseline.proofs.pattern.at_front.Goals as goal

pub returns-then-is_star : goal.returns-then-is_star
returns-then-is_star c =
    let i = c.loop-byte.invariant in
    let star = sym c.is_star.ensures ∙ c.if-is_star.true in (
      star-same c.in-Some.byte c.in-Some.behind.now c.loop-byte.left.now c.in-Some.ensures c.args.pattern.now c.args.name.now c.loop-byte.rest.now i.same i.later star,
      star-ends c.in-Some.byte c.in-Some.behind.now c.loop-byte.left.now c.in-Some.ensures c.args.pattern.now c.args.name.now c.loop-byte.rest.now i.same i.later star,
      omega (arith, ap length c.in-Some.ensures),
      omega arith,
    )

pub loop-byte-preserved : goal.loop-byte-preserved
loop-byte-preserved c =
    let i = c.loop-byte.invariant in
    let plain = sym c.is_star.ensures ∙ c.if-is_star.false in
    record {
      same = byte-same c.in-Some.byte c.in-Some.behind.now c.loop-byte.left.now c.in-Some.ensures c.args.pattern.now c.args.name.now c.loop-byte.rest.now i.same i.later c.in-Some-behind_byte.others.now c.in-Some-behind_byte.ensures plain;
      later = byte-later c.in-Some.byte c.in-Some.behind.now c.loop-byte.left.now c.in-Some.ensures c.args.pattern.now c.args.name.now c.loop-byte.rest.now i.same i.later c.in-Some-behind_byte.others.now c.in-Some-behind_byte.ensures plain;
      pattern = omega (arith, ap length c.in-Some.ensures);
      name = omega (arith, ap length c.in-Some-behind_byte.ensures);
    }
