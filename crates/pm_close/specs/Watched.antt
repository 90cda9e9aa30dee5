-- What is kept of the value sequences of a monitor, by threshold, metric and object.
use Rattle.std.specs.Prelude.{ℕ, ◌+◌, ◌≤◌, ◌<◌, ◌≡◌, List, length, map, slice_index_or}
use Rattle.pm_base.specs.Moment.{tick_of}
use Rattle.pm_meas.specs.declared.cell.Cell.{Cell}
use Rattle.pm_inventory.specs.Inventory.{SlotKey}
use Rattle.pm_history.specs.declared.entry.Side.{Side}
use Rattle.pm_history.specs.History.{History}
use Rattle.pm_history.specs.Terms.{Terms, Watched}
use Rattle.pm_history.specs.Standing.{Making}
use Rattle.pm_history.specs.Notices.{Crossed}
use Rattle.pm_close.specs.declared.cells.TickCells.{TickCells}
use Rattle.pm_close.specs.declared.marks.Marks.{Marks}
use Rattle.pm_close.specs.declared.watched.WatchedMetric.{WatchedMetric}
use Rattle.pm_close.specs.declared.watched.WatchedObject.{WatchedObject}
use Rattle.pm_close.specs.declared.watches.MetricWatches.{MetricWatches}
use Rattle.pm_close.specs.declared.monitor.OpenMonitor.{OpenMonitor}
use Rattle.pm_close.specs.declared.crossing.Crossing.{Crossing}
use Rattle.pm_close.specs.Flags.{WatchStands, is_upward}
use Rattle.pm_close.specs.Marks.{MarksStand, PeriodStands}
use Rattle.pm_close.specs.Values.{KnowsCells}

abbrev pub object_numbers : List WatchedObject → List ℕ
object_numbers objects = map (λ (o : WatchedObject). o.object) objects

-- One metric of one threshold on these objects, as histories have it.
abbrev pub watched_on : WatchedMetric → List ℕ → Watched
watched_on of objects = record {
  threshold = of.threshold;
  metric = of.metric;
  objects = objects;
  value = of.value;
  hysteresis = of.hysteresis;
  high = of.high;
  low = of.low;
  up = of.up;
  down = of.down;
}

-- One metric of one threshold with what is kept, likewise.
abbrev pub watched_by : MetricWatches → Watched
watched_by metric = watched_on metric.of (object_numbers metric.objects.items)

-- A crossing of a monitor at an end, as histories have it.
abbrev pub crossed_as : List ℕ → ℕ → Crossing → Crossed
crossed_as id end crossing = record {
  monitor = id;
  threshold = crossing.threshold;
  metric = crossing.metric;
  object = crossing.object;
  up = is_upward crossing.direction;
  value = crossing.value;
  end = end;
  limit = crossing.limit;
  hysteresis = crossing.hysteresis;
}

-- The crossings of a monitor at an end, as histories have them.
abbrev pub all_crossed : List ℕ → ℕ → List Crossing → List Crossed
all_crossed id end crossings = map (crossed_as id end) crossings

-- The slots of objects are among so many.
abbrev pub SlotsWithin : ℕ → List WatchedObject → Type 0
SlotsWithin slots objects = (k : ℕ) (d : WatchedObject) → k < length objects → (slice_index_or objects k d).slot < slots

-- Those of all metrics are.
abbrev pub AllWithin : ℕ → List MetricWatches → Type 0
AllWithin slots metrics =
    (k : ℕ) (d : MetricWatches) → k < length metrics → SlotsWithin slots (slice_index_or metrics k d).objects.items

-- The same objects, counted by the same slots.
pub record SameObjects (old new : List WatchedObject) : Type 0 where
  pub as_many : length new ≡ length old
  pub object : (k : ℕ) (d : WatchedObject) → k < length old → (slice_index_or new k d).object ≡ (slice_index_or old k d).object
  pub slot : (k : ℕ) (d : WatchedObject) → k < length old → (slice_index_or new k d).slot ≡ (slice_index_or old k d).slot

module _ (terms : Side → List ℕ → Terms) where
  -- With a tick a granularity period ends, whose marks and cells are known; the monitor was armed before.
  pub record PeriodEnds (slots : List SlotKey) (h : History) (w : Making) (granularity armed tick : ℕ) (kept : TickCells)
      (row : List Cell) (period : Marks) : Type 0 where
    pub later : tick_of armed ≤ tick
    pub knows : KnowsCells slots h kept row
    pub whole : PeriodStands terms h w granularity (tick + 1) period

  -- What is kept on an object: the slot that counts the metric there, and the watch of the value sequence up to a tick.
  pub record ObjectStands (slots : List SlotKey) (h : History) (w : Making) (granularity : ℕ) (watched : Watched) (armed tick : ℕ)
      (object : WatchedObject) : Type 0 where
    pub slot : (d : SlotKey) → slice_index_or slots object.slot d ≡ record { object = object.object; metric = watched.metric.number }
    pub watch : WatchStands terms h w granularity watched object.object armed tick object.watch

  abbrev pub ObjectsStand : List SlotKey → History → Making → ℕ → Watched → ℕ → ℕ → List WatchedObject → Type 0
  ObjectsStand slots h w granularity watched armed tick objects =
      (k : ℕ) (d : WatchedObject) → k < length objects
      → ObjectStands slots h w granularity watched armed tick (slice_index_or objects k d)

  -- The watches of a monitor stand for its value sequences up to a tick, by threshold, metric and object.
  pub record WatchesStand (slots : List SlotKey) (h : History) (w : Making) (granularity : ℕ) (watched : List Watched)
      (armed tick : ℕ) (metrics : List MetricWatches) : Type 0 where
    pub are : map watched_by metrics ≡ watched
    pub each : (k : ℕ) (d : MetricWatches) → k < length metrics
        → ObjectsStand slots h w granularity (watched_by (slice_index_or metrics k d)) armed tick
        (slice_index_or metrics k d).objects.items

  -- What is kept of a monitor stands for a history up to a tick: its marks and its watches.
  pub record MonitorStands (slots : List SlotKey) (h : History) (w : Making) (granularity : ℕ) (watched : List Watched)
      (armed tick : ℕ) (monitor : OpenMonitor) : Type 0 where
    pub armed_before : tick_of armed ≤ tick
    pub marks : MarksStand terms h w granularity tick monitor.marks
    pub watches : WatchesStand slots h w granularity watched armed tick monitor.watches.metrics.items
