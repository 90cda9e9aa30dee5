use Rattle.std.proofs.Common.{arith}
use Rattle.std.proofs.lemmas.Grind.{common_steps}
use Rattle.pm_base.proofs.NumberLemmas.{room_for_digit}
use Rattle.pm_base.proofs.number.read_digits.Goals as goal

pub overflow_mul-value : goal.overflow_mul-value
overflow_mul-value c =
    let room = room_for_digit c.loop-byte.value c.loop-byte.byte-index c.loop-byte.invariant.short (omega (arith, c.loop-byte-test.true, c.requires)) in
    grind (arith, room)

pub overflow_add-value : goal.overflow_add-value
overflow_add-value c =
    let room = room_for_digit c.loop-byte.value c.loop-byte.byte-index c.loop-byte.invariant.short (omega (arith, c.loop-byte-test.true, c.requires)) in
    grind (arith, room, common_steps)
