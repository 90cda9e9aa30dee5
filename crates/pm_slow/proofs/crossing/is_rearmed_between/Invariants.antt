use Rattle.std.proofs.Common.{◌≡◌, ◌&&◌, ltb, get_or}
use Rattle.pm_history.specs.Ticks.{at_some}
use Rattle.pm_history.specs.Crossed.{rearms}
use Rattle.pm_slow.proofs.crossing.is_rearmed_between.Given as goal

abbrev pub invariant-loop-k : goal.invariant-loop-k
invariant-loop-k l = l.rearmed ≡ at_some l.k (λ k. ltb l.after k && rearms l.high l.low (get_or l.values k 0))
