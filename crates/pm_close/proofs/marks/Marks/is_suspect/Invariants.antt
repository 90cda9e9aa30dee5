use Rattle.std.proofs.Common.{◌≡◌}
use Rattle.pm_history.specs.Ticks.{at_each}
use Rattle.pm_close.specs.Marks.{mark_at}
use Rattle.pm_close.proofs.marks.Marks.is_suspect.Given as goal

abbrev pub invariant-loop-k : goal.invariant-loop-k
invariant-loop-k l = l.each ≡ at_each l.k (mark_at l.self)
