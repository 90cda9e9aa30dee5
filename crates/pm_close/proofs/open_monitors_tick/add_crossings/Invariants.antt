use Rattle.std.proofs.Common.{◌≡◌, ◌++◌, take}
use Rattle.pm_close.specs.MonitorPlans.{crossings_in_place}
use Rattle.pm_close.proofs.open_monitors_tick.add_crossings.Given as goal

abbrev pub invariant-loop-k : goal.invariant-loop-k
invariant-loop-k l = l.all.items ≡ l.fn.all.items ++ crossings_in_place l.monitor (take l.k l.crossings)
