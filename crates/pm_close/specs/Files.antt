-- A report from the values of its parts, which stand in the order of classes, objects and metrics.
use Rattle.std.specs.Prelude.{ℕ, ◌+◌, Bool, List, [], ◌∷◌, length, map, take, drop, Option}
use Rattle.pm_history.specs.declared.metric.Metric.{Metric}
use Rattle.pm_history.specs.Terms.{Terms, Measured, reporting}
use Rattle.pm_history.specs.Files.{Row, Group, Part, Report}
use Rattle.pm_close.specs.declared.part.PartValues.{PartValues}
use Rattle.pm_close.specs.Parts.{quantities_in}

-- The rows of objects, each with as many of the values as there are metrics.
abbrev pub rows_with : List Metric → Bool → List ℕ → List (Option ℕ) → List Row
rows_with metrics suspect [] values = []
rows_with metrics suspect (object ∷ objects) values =
    record { object = object; results = take (length metrics) values; suspect = suspect }
    ∷ rows_with metrics suspect objects (drop (length metrics) values)

abbrev pub group_with : Measured → Bool → List (Option ℕ) → Group
group_with measured suspect values = record {
  class = measured.class;
  metrics = map (λ (m : Metric). m.number) measured.metrics;
  rows = rows_with measured.metrics suspect measured.objects values;
}

-- The groups, each with its values.
abbrev pub groups_with : List Measured → Bool → List (Option ℕ) → List Group
groups_with [] suspect values = []
groups_with (m ∷ ms) suspect values = group_with m suspect values ∷ groups_with ms suspect
    (drop (length (quantities_in m)) values)

-- The part that begins with this tick.
abbrev pub part_with : Terms → ℕ → PartValues → Part
part_with t first part = record {
  begin = first;
  end = first + t.granularity;
  groups = groups_with t.measured part.suspect part.values.items;
}

-- The parts of adjoining granularity periods, the first of which begins with this tick.
abbrev pub parts_with : Terms → ℕ → List PartValues → List Part
parts_with t first [] = []
parts_with t first (part ∷ parts) = part_with t first part ∷ parts_with t (first + t.granularity) parts

abbrev pub report_with : List ℕ → Terms → ℕ → List PartValues → Report
report_with id t begin parts = record { job = id; begin = begin; end = begin + reporting t; parts = parts_with t begin parts }
