use Rattle.std.proofs.Common.{◌<◌, arith, sym, ◌∙◌, ap, subst}
use Rattle.std.specs.Char.{digit_value}
use Rattle.pm_meas.proofs.NumberLemmas.{value-small, value-more, AllDigits-at}
use Rattle.pm_meas.proofs.method.value.Goals as goal

pub overflow_mul-n : goal.overflow_mul-n
overflow_mul-n c = omega (arith, value-small c.args.digits.now c.loop-c.c-index c.loop-c.n c.loop-c-test.true c.requires c.loop-c.invariant.digits c.loop-c.invariant.value)

pub overflow_add-n : goal.overflow_add-n
overflow_add-n c =
    let digit = c.in_ok-n.ensures.value in
    omega (arith, digit.0, digit.1, value-small c.args.digits.now c.loop-c.c-index c.loop-c.n c.loop-c-test.true c.requires c.loop-c.invariant.digits c.loop-c.invariant.value)

pub returns-in_err-n : goal.returns-in_err-n
returns-in_err-n c =
    rw c.from_residual.ensures (λ all. c.in_err-n.ensures.value (subst (λ b. digit_value b < 10) (sym c.from.ensures) (AllDigits-at c.args.digits.now c.loop-c.c-index all c.loop-c-test.true)))

pub loop-c-preserved : goal.loop-c-preserved
loop-c-preserved c =
    let digit = c.in_ok-n.ensures.value in
    let more = value-more c.args.digits.now c.loop-c.c-index c.loop-c.n c.in_ok-n.field-0 c.loop-c-test.true c.loop-c.invariant.digits c.loop-c.invariant.value
    (subst (λ b. digit_value b < 10) c.from.ensures digit.0) (digit.1 ∙ ap digit_value c.from.ensures) in
    record { digits = more.0; value = more.1 }
