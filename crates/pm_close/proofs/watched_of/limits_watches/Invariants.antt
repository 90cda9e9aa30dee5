use Rattle.std.proofs.Common.{◌≡◌, length, map, take}
use Rattle.std.specs.List.{flat_map, enumerate_from}
use Rattle.pm_inventory.specs.Inventory.{slots}
use Rattle.pm_jobs.specs.Stands.{bound_of}
use Rattle.pm_close.specs.Watched.{AllWithin, watched_by}
use Rattle.pm_close.specs.WatchedOf.{MetricsBegin, watched_in}
use Rattle.pm_close.proofs.watched_of.limits_watches.Given as goal

abbrev pub invariant-loop-k : goal.invariant-loop-k
invariant-loop-k l = record {
  watched : map watched_by l.metrics.items
      ≡ flat_map (watched_in l.inventory l.objects) (take l.k (enumerate_from 0 (map bound_of l.limits)));
  begin : MetricsBegin l.inventory l.metrics.items;
  within : AllWithin (length (slots l.inventory)) l.metrics.items;
}
