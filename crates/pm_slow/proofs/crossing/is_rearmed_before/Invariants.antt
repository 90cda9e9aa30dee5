use Rattle.std.proofs.Common.{◌≡◌, ◌||◌, not, leb, get_or}
use Rattle.pm_history.specs.Ticks.{at_each}
use Rattle.pm_history.specs.Crossed.{is_rearmed_between}
use Rattle.pm_slow.proofs.crossing.is_rearmed_before.Given as goal

abbrev pub invariant-loop-j : goal.invariant-loop-j
invariant-loop-j l = l.rearmed ≡ at_each l.j (λ j. not (leb l.high (get_or l.values j 0)) || is_rearmed_between l.high l.low l.values j l.end)
