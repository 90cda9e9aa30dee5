-- What a monitor watches, by the numbers that it keeps.
use Rattle.std.specs.Prelude.{ℕ, ◌+◌, ◌-◌, ◌<◌, ◌≤◌, List, map, length, slice_index_or}
use Rattle.std.specs.List.{flat_map, enumerate_from}
use Rattle.pm_base.specs.Moment.{tick_of}
use Rattle.pm_inventory.specs.Inventory.{InventoryState, slots}
use Rattle.pm_history.specs.declared.entry.Side.{Side}
use Rattle.pm_history.specs.History.{History}
use Rattle.pm_history.specs.Terms.{Terms, Watched}
use Rattle.pm_history.specs.Standing.{Making}
use Rattle.pm_asked.specs.Asked.{Numbered, metric_of, margin, measured_objects}
use Rattle.pm_asked.specs.Body.{MOST_THRESHOLD}
use Rattle.pm_jobs.specs.Numbered.{AreBelow, numbered}
use Rattle.pm_jobs.specs.Stands.{Bound}
use Rattle.pm_jobs.specs.declared.standing.Limit.{Limit}
use Rattle.pm_close.specs.declared.watches.MetricWatches.{MetricWatches}
use Rattle.pm_close.specs.declared.watched.WatchedObject.{WatchedObject}
use Rattle.pm_close.specs.Watched.{ObjectStands, WatchesStand, watched_by}

-- One metric of the threshold at a place, on those of the objects that are of its class.
abbrev pub watched_at : InventoryState → List ℕ → ℕ → Bound → Numbered → Watched
watched_at inventory objects place bound metric = record {
  threshold = place;
  metric = metric_of metric;
  objects = measured_objects inventory objects metric.1.class;
  value = bound.value;
  hysteresis = bound.hysteresis;
  high = bound.value + margin metric.1.kind bound.hysteresis;
  low = bound.value - margin metric.1.kind bound.hysteresis;
  up = bound.up;
  down = bound.down;
}

-- All metrics of the threshold at a place.
abbrev pub watched_in : InventoryState → List ℕ → ℕ × Bound → List Watched
watched_in inventory objects bound = map (watched_at inventory objects bound.0 bound.1) (numbered inventory bound.1.metrics)

-- All metrics of all thresholds.
abbrev pub watched_all : InventoryState → List ℕ → List Bound → List Watched
watched_all inventory objects bounds = flat_map (watched_in inventory objects) (enumerate_from 0 bounds)

-- A threshold names metrics of the inventory, and is within its range.
pub record IsLimit (inventory : InventoryState) (limit : Limit) : Type 0 where
  pub metrics : AreBelow (length inventory.measures) limit.metrics.items
  pub value : limit.value ≤ MOST_THRESHOLD
  pub hysteresis : limit.hysteresis ≤ limit.value

abbrev pub AreLimits : InventoryState → List Limit → Type 0
AreLimits inventory limits = (k : ℕ) (d : Limit) → k < length limits → IsLimit inventory (slice_index_or limits k d)

-- What is kept on an object stands for an empty value sequence, whatever the history; the same of objects, of metrics, and of
-- all watches of a monitor.
abbrev pub ObjectBegins : InventoryState → Watched → WatchedObject → Type 0
ObjectBegins inventory watched object =
    (terms : Side → List ℕ → Terms) (h : History) (w : Making) (granularity armed : ℕ)
    → ObjectStands terms (slots inventory) h w granularity watched armed (tick_of armed) object

abbrev pub ObjectsBegin : InventoryState → Watched → List WatchedObject → Type 0
ObjectsBegin inventory watched objects =
    (k : ℕ) (d : WatchedObject) → k < length objects → ObjectBegins inventory watched (slice_index_or objects k d)

abbrev pub MetricsBegin : InventoryState → List MetricWatches → Type 0
MetricsBegin inventory metrics =
    (k : ℕ) (d : MetricWatches) → k < length metrics
    → ObjectsBegin inventory (watched_by (slice_index_or metrics k d)) (slice_index_or metrics k d).objects.items

abbrev pub WatchesBegin : InventoryState → List Watched → List MetricWatches → Type 0
WatchesBegin inventory watched metrics =
    (terms : Side → List ℕ → Terms) (h : History) (w : Making) (granularity armed : ℕ)
    → WatchesStand terms (slots inventory) h w granularity watched armed (tick_of armed) metrics
