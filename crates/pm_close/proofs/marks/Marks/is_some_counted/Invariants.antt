use Rattle.std.proofs.Common.{◌≡◌}
use Rattle.pm_history.specs.Ticks.{at_some}
use Rattle.pm_close.specs.Marks.{mark_at}
use Rattle.pm_close.proofs.marks.Marks.is_some_counted.Given as goal

abbrev pub invariant-loop-k : goal.invariant-loop-k
invariant-loop-k l = l.some ≡ at_some l.k (mark_at l.self)
