use Rattle.std.proofs.Common.{◌≡◌, ◌++◌, length, map, take}
use Rattle.pm_inventory.specs.Inventory.{slots}
use Rattle.pm_jobs.specs.Numbered.{numbered}
use Rattle.pm_jobs.specs.Stands.{bound_of}
use Rattle.pm_close.specs.Watched.{AllWithin, watched_by}
use Rattle.pm_close.specs.WatchedOf.{MetricsBegin, watched_at}
use Rattle.pm_close.proofs.watched_of.add_limit.Given as goal

abbrev pub invariant-loop-k : goal.invariant-loop-k
invariant-loop-k l = record {
  watched : map watched_by l.metrics.items
      ≡ map watched_by l.fn.metrics.items
      ++ map (watched_at l.inventory l.objects l.threshold (bound_of l.limit)) (numbered l.inventory (take l.k l.limit.metrics.items));
  begin : MetricsBegin l.inventory l.metrics.items;
  within : AllWithin (length (slots l.inventory)) l.metrics.items;
}
