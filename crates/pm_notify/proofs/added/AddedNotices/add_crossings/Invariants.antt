use Rattle.std.proofs.Common.{◌≡◌, ◌++◌, List, map, take}
use Rattle.std.specs.List.{AllByRecursion}
use Rattle.pm_history.specs.Notices as history
use Rattle.pm_jobs.specs.State.{ids}
use Rattle.pm_close.specs.MonitorPlans.{all_told}
use Rattle.pm_notify.specs.Notices.{AreNoticesFrom}
use Rattle.pm_notify.specs.Tellable.{IsTellable}
use Rattle.pm_notify.proofs.added.AddedNotices.add_crossings.Given as goal

abbrev pub invariant-loop-crossing : goal.invariant-loop-crossing
invariant-loop-crossing l = record {
  first : l.self.first ≡ l.fn.self.first;
  told : (before : List history.Notice) → AreNoticesFrom l.inventory l.fn.self.first before l.fn.self.notices.items
      → AllByRecursion (IsTellable l.inventory) (all_told (ids l.jobs.monitors) l.end l.crossings)
      → AreNoticesFrom l.inventory l.fn.self.first (before ++ map history.Crossing (all_told (ids l.jobs.monitors) l.end (take l.crossing-index l.crossings))) l.self.notices.items;
}
