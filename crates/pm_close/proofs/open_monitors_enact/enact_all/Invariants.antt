use Rattle.std.proofs.Common.{◌≡◌, ◌≤◌, ◌<◌, ℕ, length, slice_index_or}
use Rattle.pm_close.specs.declared.open_monitors.KeptMonitor.{KeptMonitor}
use Rattle.pm_close.specs.declared.open_monitors_plan.MonitorPlan.{MonitorPlan}
use Rattle.pm_close.specs.MonitorPlans.{all_enacted}
use Rattle.pm_close.proofs.open_monitors_enact.enact_all.Given as goal

abbrev pub invariant-loop-k : goal.invariant-loop-k
invariant-loop-k l = record {
  as_many : length l.monitors ≡ length l.fn.monitors;
  plans : length l.plans ≡ length l.fn.plans;
  done : (j : ℕ) (d : KeptMonitor) → j < l.k → slice_index_or l.monitors j d ≡ slice_index_or (all_enacted l.fn.monitors l.fn.plans) j d;
  later : (j : ℕ) (d : KeptMonitor) → l.k ≤ j → slice_index_or l.monitors j d ≡ slice_index_or l.fn.monitors j d;
  later_plans : (j : ℕ) (d : MonitorPlan) → l.k ≤ j → slice_index_or l.plans j d ≡ slice_index_or l.fn.plans j d;
}
