-- The values of one granularity period, in the order in which a report has them.
use Rattle.std.specs.Prelude.{ℕ, ◌<◌, ◌≡◌, true, List, length, map, replicate, slice_index_or, Option, None}
use Rattle.std.specs.List.{flat_map}
use Rattle.pm_meas.specs.declared.cell.Cell.{Cell}
use Rattle.pm_meas.specs.declared.kind.Reduce.TheVariants.{Sum}
use Rattle.pm_inventory.specs.Inventory.{SlotKey}
use Rattle.pm_history.specs.declared.entry.Side.{Side}
use Rattle.pm_history.specs.declared.metric.Metric.{Metric}
use Rattle.pm_history.specs.History.{History}
use Rattle.pm_history.specs.Terms.{Terms, Measured}
use Rattle.pm_history.specs.Standing.{Making}
use Rattle.pm_history.specs.Value.{measured_value, is_suspect}
use Rattle.pm_close.specs.declared.measure.Measure.{Measure}
use Rattle.pm_close.specs.declared.part.PartValues.{PartValues}
use Rattle.pm_close.specs.declared.cells.TickCells.{TickCells}
use Rattle.pm_close.specs.declared.marks.Marks.{Marks}
use Rattle.pm_close.specs.Values.{IsValue}

-- What a value is of: a metric on an object.
pub record Quantity : Type 0 where
  pub object : ℕ
  pub metric : Metric

-- What a job measures, in the order of its report: by class, by object, by metric.
abbrev pub quantities_on : List Metric → ℕ → List Quantity
quantities_on metrics object = map (λ (m : Metric). record { object = object; metric = m }) metrics

abbrev pub quantities_in : Measured → List Quantity
quantities_in measured = flat_map (quantities_on measured.metrics) measured.objects

abbrev pub quantities_of : List Measured → List Quantity
quantities_of measured = flat_map quantities_in measured

-- A measure reads a quantity: its slot counts it, and it reduces as the metric does.
pub record Reads (slots : List SlotKey) (measure : Measure) (quantity : Quantity) : Type 0 where
  pub within : measure.slot < length slots
  pub slot : (d : SlotKey) → slice_index_or slots measure.slot d ≡ record
      { object = quantity.object; metric = quantity.metric.number }
  pub reduce : quantity.metric.reduce ≡ measure.reduce

-- What stands past the end of measures, or of quantities.
abbrev pub no_measure : Measure
no_measure = record { slot = 0; reduce = Sum }

abbrev pub no_quantity : Quantity
no_quantity = record { object = 0; metric = record { number = 0; reduce = Sum } }

-- The k-th measure.
abbrev pub measure_at : List Measure → ℕ → Measure
measure_at measures k = slice_index_or measures k no_measure

-- Each measure reads the quantity at its place.
pub record ReadEach (slots : List SlotKey) (measures : List Measure) (quantities : List Quantity) : Type 0 where
  pub as_many : length measures ≡ length quantities
  pub each : (k : ℕ) → k < length measures → Reads slots (measure_at measures k) (slice_index_or quantities k no_quantity)

-- Answers are the values of the measures at their places.
abbrev pub AreValues : TickCells → List Cell → List Measure → Marks → List (Option ℕ) → Type 0
AreValues kept row measures period answers =
    (k : ℕ) → k < length answers → IsValue kept row (measure_at measures k).slot period (measure_at measures k).reduce
    (slice_index_or answers k None)

-- The slots of measures are among so many.
abbrev pub AreWithin : ℕ → List Measure → Type 0
AreWithin slots measures = (k : ℕ) → k < length measures → (measure_at measures k).slot < slots

-- A part is of so many nulls.
pub record IsNull (values : ℕ) (part : PartValues) : Type 0 where
  pub nulls : part.values.items ≡ replicate values None
  pub suspect : part.suspect ≡ true

-- Each part is.
abbrev pub AreNull : ℕ → List PartValues → Type 0
AreNull values parts = (k : ℕ) (d : PartValues) → k < length parts → IsNull values (slice_index_or parts k d)

module _ (terms : Side → List ℕ → Terms) where
  -- The values of quantities over n ticks from the first on.
  abbrev pub values_over : History → Making → List Quantity → ℕ → ℕ → List (Option ℕ)
  values_over h w quantities first n = map (λ (q : Quantity). measured_value terms h w q.object q.metric first n) quantities

  -- What is kept of a granularity period that ended: its values, and whether they are suspect.
  pub record IsPart (h : History) (w : Making) (quantities : List Quantity) (first n : ℕ) (part : PartValues) : Type 0 where
    pub values : part.values.items ≡ values_over h w quantities first n
    pub suspect : part.suspect ≡ is_suspect terms h w first n
