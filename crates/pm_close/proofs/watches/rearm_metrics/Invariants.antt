use Rattle.std.proofs.Common.{◌≡◌, ◌≤◌, ◌<◌, ℕ, List, length, slice_index_or}
use Rattle.pm_base.specs.Moment.{tick_of}
use Rattle.pm_inventory.specs.Inventory.{SlotKey}
use Rattle.pm_history.specs.declared.entry.Side.{Side}
use Rattle.pm_history.specs.History.{History}
use Rattle.pm_history.specs.Terms.{Terms, Watched}
use Rattle.pm_history.specs.Standing.{Making}
use Rattle.pm_close.specs.declared.watches.MetricWatches.{MetricWatches}
use Rattle.pm_close.specs.Watched.{ObjectsStand, WatchesStand, SlotsWithin, AllWithin, watched_by}
use Rattle.pm_close.proofs.watches.rearm_metrics.Given as goal

abbrev pub invariant-loop-k : goal.invariant-loop-k
invariant-loop-k l = record {
  as_many : length l.metrics ≡ length l.fn.metrics;
  watched : (j : ℕ) (d : MetricWatches) → j < length l.fn.metrics
      → watched_by (slice_index_or l.metrics j d) ≡ watched_by (slice_index_or l.fn.metrics j d);
  within : (slots : ℕ) → AllWithin slots l.fn.metrics → (j : ℕ) (d : MetricWatches) → j < length l.fn.metrics
      → SlotsWithin slots (slice_index_or l.metrics j d).objects.items;
  later : (j : ℕ) (d : MetricWatches) → l.k ≤ j → slice_index_or l.metrics j d ≡ slice_index_or l.fn.metrics j d;
  stand : (terms : Side → List ℕ → Terms) (slots : List SlotKey) (h g : History) (w : Making) (granularity : ℕ)
      (watched : List Watched)
      (before armed tick : ℕ)
      → WatchesStand terms slots h w granularity watched before tick l.fn.metrics
      → (j : ℕ) (d : MetricWatches) → j < l.k
      → ObjectsStand terms slots g w granularity (watched_by (slice_index_or l.metrics j d)) armed (tick_of armed)
      (slice_index_or l.metrics j d).objects.items;
}
