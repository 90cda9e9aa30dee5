use Rattle.std.proofs.Common.{◌≡◌, ◌+◌, ◌*◌, ◌≤◌, ◌-◌, get_or, length, true, arith, refl, ◌∙◌, sym, ap}
use Rattle.std.specs.Char.{is_ascii_digit}
use Rattle.pm_events.proofs.LastWordLemmas.{more-value, more-digits, more-room, digit-small}
use Rattle.pm_events.proofs.last_word.last_number.Goals as goal

pub loop-digits-preserved : goal.loop-digits-preserved
loop-digits-preserved c =
    let words = c.args.words.now in
    let digits = c.loop-digits.digits in
    let at = c.in_ok-at.at in
    let value = c.loop-digits.value in
    let scale = c.loop-digits.scale in
    let before = c.loop-digits.invariant in
    let place : at + (digits + 1) ≡ length words = omega arith in
    let digit : c.from.result ≡ get_or words at 0 - 48 = c.from.ensures in
    let is : is_ascii_digit (get_or words at 0) ≡ true = sym c.is_ascii_digit.ensures.value ∙ c.if-not-is_ascii_digit.false in
    let small : c.from.result ≤ 9 = omega (arith, digit, digit-small (get_or words at 0) is) in
    let room = more-room digits value scale c.from.result c.loop-digits-test.true before.scale before.short small in
    record {
      within = omega arith;
      digits = more-digits words digits at (get_or words at 0) place refl before.digits is;
      value = ap (λ n. value + scale * n) digit ∙ more-value words digits at value scale (get_or words at 0) place refl before.value before.scale;
      scale = room.2;
      short = room.1;
    }
