use Rattle.std.proofs.Common.{◌≡◌, ◌||◌, not, ltb, get_or}
use Rattle.pm_history.specs.Ticks.{at_each}
use Rattle.pm_slow.proofs.crossing.stays_over.Given as goal

abbrev pub invariant-loop-k : goal.invariant-loop-k
invariant-loop-k l = l.over ≡ at_each l.k (λ k. not (ltb l.after k) || ltb l.low (get_or l.values k 0))
