-- What the files of a job add up to.
use Rattle.std.specs.Prelude.{ℕ, ◌-◌, ◌*◌, ◌==◌, ◌≡◌, Bool, ◌&&◌, List, [], ◌∷◌, sum, if◌then◌else◌, Option, Some, None}
use Rattle.std.specs.List.{flat_map, sum_by, list_any}
use Rattle.std.specs.Option.{unwrap_or}
use Rattle.pm_base.specs.Moment.{tick_of}
use Rattle.pm_meas.specs.declared.kind.Reduce.{Reduce}
use Rattle.pm_meas.specs.declared.kind.Reduce.TheVariants.{Sum}
use Rattle.pm_history.specs.declared.entry.Side.{Side}
use Rattle.pm_history.specs.declared.entry.Side.TheVariants.{Job}
use Rattle.pm_history.specs.declared.metric.Metric.{Metric}
use Rattle.pm_history.specs.Entry.{Change, Made, change_of}
use Rattle.pm_history.specs.History.{History, Start, ◌▷◌, size, before, last_moment}
use Rattle.pm_history.specs.Terms.{Terms, Measured}
use Rattle.pm_history.specs.Ticks.{is_within, behind}
use Rattle.pm_history.specs.Standing.{Making, Standing, standing_after}
use Rattle.pm_history.specs.Counted.{is_counted}
use Rattle.pm_history.specs.Value.{values_where}
use Rattle.pm_history.specs.Files.{Row, Group, Part, Report, file_of}

-- The results of a metric in a row whose results are of these metrics.
abbrev pub results_at : ℕ → List ℕ → List (Option ℕ) → List (Option ℕ)
results_at metric [] results = []
results_at metric (n ∷ ns) [] = []
results_at metric (n ∷ ns) (r ∷ rs) = if n == metric then r ∷ results_at metric ns rs else results_at metric ns rs

-- The results of a metric on an object.
abbrev pub row_results : ℕ → ℕ → List ℕ → Row → List (Option ℕ)
row_results object metric metrics row = if row.object == object then results_at metric metrics row.results else []

abbrev pub group_results : ℕ → ℕ → Group → List (Option ℕ)
group_results object metric group = flat_map (row_results object metric group.metrics) group.rows

abbrev pub part_results : ℕ → ℕ → Part → List (Option ℕ)
part_results object metric part = flat_map (group_results object metric) part.groups

-- What the results of a metric on an object add up to, null as 0.
abbrev pub value_in : ℕ → ℕ → Part → ℕ
value_in object metric part = sum_by (λ r. unwrap_or r 0) (part_results object metric part)

abbrev pub sum_in : ℕ → ℕ → Report → ℕ
sum_in object metric report = sum_by (value_in object metric) report.parts

-- Whether a tick lies in the period of a report.
abbrev pub lies_in : ℕ → Report → Bool
lies_in tick report = is_within report.begin (report.end - report.begin) tick

-- The reductions by which a job measures a metric on an object: one, where it measures it once.
abbrev pub reductions_at : ℕ → List Metric → List Reduce
reductions_at metric [] = []
reductions_at metric (m ∷ ms) = if m.number == metric then m.reduce ∷ reductions_at metric ms else reductions_at metric ms

abbrev pub object_reductions : ℕ → ℕ → List Metric → ℕ → List Reduce
object_reductions object metric metrics o = if o == object then reductions_at metric metrics else []

abbrev pub measured_reductions : ℕ → ℕ → Measured → List Reduce
measured_reductions object metric measured = flat_map (object_reductions object metric measured.metrics) measured.objects

abbrev pub reductions : ℕ → ℕ → Terms → List Reduce
reductions object metric t = flat_map (measured_reductions object metric) t.measured

-- The body of a making.
abbrev pub body_in : Option Change → List ℕ
body_in (Some (Made body)) = body
body_in _ = []

abbrev pub body_made : Making → History → List ℕ
body_made w Start = []
body_made w (h ▷ e) = if size h == w.place then body_in (change_of w.side w.id e) else body_made w h

module _ (terms : Side → List ℕ → Terms) where
  -- The file of a making at an end.
  abbrev pub file_if : History → Making → ℕ → Option Standing → List Report
  file_if h w end None = []
  file_if h w end (Some s) = if s.place == w.place then file_of terms h w.id end (Some s) else []

  abbrev pub file_by : History → Making → ℕ → List Report
  file_by h w end = file_if h w end (standing_after terms Job (before (60 * end) h) w.id)

  -- The files of a making, in their order.
  abbrev pub files_by : History → Making → List Report
  files_by h w = behind (file_by h w) 0 (tick_of (last_moment h))

-- For each job, and each metric and object that it measures once, by the sum: the results in all its files add up to the registered
-- events whose ticks are counted for it and lie in those files.
abbrev pub SumsConserved : Type 0
SumsConserved =
    (terms : Side → List ℕ → Terms) (h : History) (id : List ℕ) (place object metric : ℕ)
    → let w : Making = record { side = Job; id = id; place = place } in
    let files = files_by terms h w in
    reductions object metric (terms Job (body_made w h)) ≡ Sum ∷ []
    → sum_by (sum_in object metric) files ≡ sum (values_where object metric (λ tick. list_any (lies_in tick) files && is_counted terms h w tick) h)
