use Rattle.std.proofs.Common.{◌≡◌, length, take}
use Rattle.pm_close.specs.MonitorPlans.{all_enacted}
use Rattle.pm_close.proofs.open_monitors_book.plans_of.Given as goal

abbrev pub invariant-loop-k : goal.invariant-loop-k
invariant-loop-k l = record {
  as_many : length l.plans.items ≡ l.k;
  same : all_enacted (take l.k l.monitors) l.plans.items ≡ take l.k l.monitors;
}
