use Rattle.std.proofs.Common.{◌≡◌, ◌<◌, ℕ, length, slice_index_or}
use Rattle.pm_close.specs.declared.watches.MetricWatches.{MetricWatches}
use Rattle.pm_close.specs.MonitorPlans.{SameMetric}
use Rattle.pm_close.proofs.open_monitors_plan.copy_watches.Given as goal

abbrev pub invariant-loop-k : goal.invariant-loop-k
invariant-loop-k l = record {
  as_many : length l.metrics.items ≡ l.k;
  each : (j : ℕ) (d : MetricWatches) → j < l.k → SameMetric (slice_index_or l.watches.metrics.items j d) (slice_index_or l.metrics.items j d);
}
