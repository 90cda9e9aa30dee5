use Rattle.std.proofs.Common.{◌≡◌, ◌&&◌, ltb, leb, get_or}
use Rattle.pm_history.specs.Ticks.{at_some}
use Rattle.pm_history.specs.Crossed.{stays_over}
use Rattle.pm_slow.proofs.crossing.is_raised_before.Given as goal

abbrev pub invariant-loop-j : goal.invariant-loop-j
invariant-loop-j l = l.raised ≡ at_some l.j (λ j. leb l.high (get_or l.values j 0) && ltb l.low (get_or l.values j 0) && stays_over l.low l.values j l.end)
