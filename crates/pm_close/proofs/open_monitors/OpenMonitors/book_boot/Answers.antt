use Rattle.std.proofs.Common.{ℕ, List, IfOk, Vec, Global, subst}
use Rattle.pm_close.specs.declared.cells.TickCells.{TickCells}
use Rattle.pm_close.specs.declared.open_monitors.KeptMonitor.{KeptMonitor}
use Rattle.pm_close.specs.declared.open_monitors_plan.MonitorPlan.{MonitorPlan}
use Rattle.pm_close.specs.OpenMonitors.{AllGoOn}
use Rattle.pm_close.specs.MonitorPlans.{all_enacted}
use Rattle.pm_close.proofs.open_monitors.OpenMonitors.book_boot.Goals as goal

pub returns-clause-go_on : goal.returns-clause-go_on
returns-clause-go_on c =
    subst (λ (l : List KeptMonitor). IfOk c.cut_all.result (λ (plans : Vec MonitorPlan Global). (cells : TickCells) (from : ℕ)
    → AllGoOn cells from l → AllGoOn cells c.args.tick (all_enacted l plans.items)))
    c.as_slice.ensures.value c.cut_all.ensures.go_on
