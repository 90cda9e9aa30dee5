-- The files of a history, in the numbers of the inventory and in ticks. What a report is comes after TS 32.432; which files there are is this project's own.
use Rattle.std.specs.Prelude.{ℕ, zero, suc, ◌+◌, ◌-◌, ◌*◌, ◌%◌, Bool, ◌&&◌, ◌==◌, List, [], ◌∷◌, ◌++◌, map, if◌then◌else◌, Option, Some, None, nat_le}
use Rattle.std.specs.List.{flat_map}
use Rattle.pm_base.specs.Moment.{tick_of}
use Rattle.pm_base.specs.declared.class.Class.{Class}
use Rattle.pm_history.specs.declared.entry.Side.{Side}
use Rattle.pm_history.specs.declared.entry.Side.TheVariants.{Job}
use Rattle.pm_history.specs.History.{History, before, last_moment}
use Rattle.pm_history.specs.declared.metric.Metric.{Metric}
use Rattle.pm_history.specs.Terms.{Terms, Measured, reporting}
use Rattle.pm_history.specs.Ticks.{behind}
use Rattle.pm_history.specs.Standing.{Making, Standing, making_of, standing_after, ids_after}
use Rattle.pm_history.specs.Counted.{some_counted}
use Rattle.pm_history.specs.Value.{measured_value, is_suspect}

-- The results of one object, in the order of the metrics of its group; null is None.
pub record Row : Type 0 where
  pub object : ℕ
  pub results : List (Option ℕ)
  pub suspect : Bool

-- What was measured of one class.
pub record Group : Type 0 where
  pub class : Class
  pub metrics : List ℕ
  pub rows : List Row

-- What was measured in one granularity period.
pub record Part : Type 0 where
  pub begin : ℕ
  pub end : ℕ
  pub groups : List Group

-- The report of a job over one reporting period.
pub record Report : Type 0 where
  pub job : List ℕ
  pub begin : ℕ
  pub end : ℕ
  pub parts : List Part

module _ (terms : Side → List ℕ → Terms) where
  abbrev pub row_of : History → Making → ℕ → ℕ → List Metric → ℕ → Row
  row_of h w first ticks metrics object = record {
    object = object;
    results = map (λ (m : Metric). measured_value terms h w object m first ticks) metrics;
    suspect = is_suspect terms h w first ticks;
  }

  abbrev pub group_of : History → Making → ℕ → ℕ → Measured → Group
  group_of h w first ticks measured = record {
    class = measured.class;
    metrics = map (λ (m : Metric). m.number) measured.metrics;
    rows = map (row_of h w first ticks measured.metrics) measured.objects;
  }

  -- The part of the granularity period that begins with this tick.
  abbrev pub part_of : History → Making → Terms → ℕ → Part
  part_of h w t first = record {
    begin = first;
    end = first + t.granularity;
    groups = map (group_of h w first t.granularity) t.measured;
  }

  -- The parts of n granularity periods from the first tick on.
  abbrev pub parts_of : History → Making → Terms → ℕ → ℕ → List Part
  parts_of h w t first zero = []
  parts_of h w t first (suc n) = parts_of h w t first n ++ part_of h w t (first + n * t.granularity) ∷ []

  -- The report of the reporting period that ends with this tick.
  abbrev pub report_of : History → Making → Terms → ℕ → Report
  report_of h w t end = record {
    job = w.id;
    begin = end - reporting t;
    end = end;
    parts = parts_of h w t (end - reporting t) t.parts;
  }

  -- Whether a reporting period ends with this tick, and has a counted tick.
  abbrev pub is_due : History → Making → Terms → ℕ → Bool
  is_due h w t end = nat_le (reporting t) end && end % reporting t == 0 && some_counted terms h w (end - reporting t) (reporting t)

  -- The file of a job that stands at this end, if one is due.
  abbrev pub file_of : History → List ℕ → ℕ → Option Standing → List Report
  file_of h id end None = []
  file_of h id end (Some s) =
      if is_due h (making_of Job id s) (terms Job s.body) end then report_of h (making_of Job id s) (terms Job s.body) end ∷ [] else []

  -- The file of the job that stands under an id at this end, by the entries before it.
  abbrev pub file_at : History → ℕ → List ℕ → List Report
  file_at h end id = file_of h id end (standing_after terms Job (before (60 * end) h) id)

  -- The files of the periods that end with this tick, in byte order of id.
  abbrev pub files_at : History → ℕ → List Report
  files_at h end = flat_map (file_at h end) (ids_after Job (before (60 * end) h))

  -- One file for each job and reporting period that is over, that has a counted tick and at whose end the job stands; in order of
  -- their ends, and at one end in byte order of id.
  abbrev pub files_of : History → List Report
  files_of h = behind (files_at h) 0 (tick_of (last_moment h))
