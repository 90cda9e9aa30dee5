use Rattle.std.proofs.Common.{◌<◌, length, arith}
use Rattle.pm_jobs.proofs.StepLemmas.{more_numbers}
use Rattle.pm_jobs.proofs.numbers.mark_each.Goals as goal

pub loop-number-preserved : goal.loop-number-preserved
loop-number-preserved c =
    λ k lt.
    let within : k < length c.loop-number.marks = omega (arith, lt, c.loop-number.auto.marks) in
    more_numbers c.args.numbers.now c.loop-number.number-index k _ _ _ c.loop-number-test.true (c.loop-number.invariant k lt) (c.mark.ensures k within)
