use Rattle.std.proofs.Common.{◌≡◌, ◌≤◌, ◌<◌, ◌+◌, ◌++◌, ℕ, List, length, map, take, slice_index_or}
use Rattle.std.specs.List.{flat_map}
use Rattle.pm_inventory.specs.Inventory.{SlotKey}
use Rattle.pm_history.specs.declared.entry.Side.{Side}
use Rattle.pm_history.specs.History.{History}
use Rattle.pm_history.specs.Terms.{Terms, Watched}
use Rattle.pm_history.specs.Standing.{Making}
use Rattle.pm_history.specs.Value.{is_suspect}
use Rattle.pm_history.specs.Notices.{crossings_by}
use Rattle.pm_close.specs.declared.watches.MetricWatches.{MetricWatches}
use Rattle.pm_close.specs.Watched.{PeriodEnds, ObjectsStand, WatchesStand, SlotsWithin, watched_by, all_crossed}
use Rattle.pm_close.proofs.watches.end_metrics.Given as goal

abbrev pub invariant-loop-k : goal.invariant-loop-k
invariant-loop-k l = record {
  as_many : length l.metrics ≡ length l.fn.metrics;
  watched : (j : ℕ) (d : MetricWatches) → j < length l.fn.metrics
      → watched_by (slice_index_or l.metrics j d) ≡ watched_by (slice_index_or l.fn.metrics j d);
  within : (j : ℕ) (d : MetricWatches) → j < length l.fn.metrics
      → SlotsWithin l.kept.slots (slice_index_or l.metrics j d).objects.items;
  later : (j : ℕ) (d : MetricWatches) → l.k ≤ j → slice_index_or l.metrics j d ≡ slice_index_or l.fn.metrics j d;
  stand : (terms : Side → List ℕ → Terms) (slots : List SlotKey) (h : History) (w : Making) (granularity : ℕ)
      (watched : List Watched) (armed tick : ℕ)
      → PeriodEnds terms slots h w granularity armed tick l.kept l.row l.period
      → l.suspect ≡ is_suspect terms h w l.period.begin granularity
      → WatchesStand terms slots h w granularity watched armed tick l.fn.metrics
      → (j : ℕ) (d : MetricWatches) → j < l.k
      → ObjectsStand terms slots h w granularity (watched_by (slice_index_or l.metrics j d)) armed (tick + 1)
      (slice_index_or l.metrics j d).objects.items;
  crossed : (terms : Side → List ℕ → Terms) (slots : List SlotKey) (h : History) (w : Making) (granularity : ℕ)
      (watched : List Watched) (armed tick : ℕ)
      → PeriodEnds terms slots h w granularity armed tick l.kept l.row l.period
      → l.suspect ≡ is_suspect terms h w l.period.begin granularity
      → WatchesStand terms slots h w granularity watched armed tick l.fn.metrics
      → all_crossed w.id (tick + 1) l.crossings.items ≡ all_crossed w.id (tick + 1) l.fn.crossings.items
      ++ flat_map (crossings_by terms h w granularity armed (tick + 1)) (take l.k (map watched_by l.fn.metrics));
}
