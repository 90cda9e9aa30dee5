use Rattle.std.proofs.Common.{◌≡◌, ◌<◌, ℕ, length, slice_index_or}
use Rattle.pm_close.specs.declared.open_monitors.KeptMonitor.{KeptMonitor}
use Rattle.pm_close.specs.declared.open_monitors_plan.MonitorPlan.{MonitorPlan}
use Rattle.pm_close.specs.MonitorPlans.{IsCutBy}
use Rattle.pm_close.proofs.open_monitors_cut.cut_all.Given as goal

abbrev pub invariant-loop-k : goal.invariant-loop-k
invariant-loop-k l = record {
  as_many : length l.plans.items ≡ l.k;
  cut : (j : ℕ) (m : KeptMonitor) (d : MonitorPlan) → j < l.k
      → IsCutBy l.tick (slice_index_or l.monitors j m) (slice_index_or l.plans.items j d);
}
