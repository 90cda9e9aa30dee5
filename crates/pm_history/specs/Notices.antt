-- The notices of a history: files that became ready, and crossings of thresholds (TS 28.532). Their order is this project's own.
use Rattle.std.specs.Prelude.{ℕ, ◌-◌, ◌*◌, ◌%◌, Bool, ◌&&◌, ◌==◌, not, List, [], ◌∷◌, ◌++◌, length, map, if◌then◌else◌, Option, Some, None, nat_le, option_to_list}
use Rattle.std.specs.List.{flat_map}
use Rattle.pm_base.specs.Moment.{tick_of}
use Rattle.pm_history.specs.declared.entry.Side.{Side}
use Rattle.pm_history.specs.declared.entry.Side.TheVariants.{Monitor}
use Rattle.pm_history.specs.History.{History, before, last_moment}
use Rattle.pm_history.specs.declared.metric.Metric.{Metric}
use Rattle.pm_history.specs.Terms.{Terms, Watched}
use Rattle.pm_history.specs.Ticks.{behind}
use Rattle.pm_history.specs.Standing.{Making, Standing, making_of, standing_after, ids_after}
use Rattle.pm_history.specs.Value.{measured_value, is_suspect}
use Rattle.pm_history.specs.Files.{Report, files_at}
use Rattle.pm_history.specs.Crossed.{crossing_in}

-- A crossing: the monitor's id, the number of its threshold, the numbers of metric and object, whether it is upward, the value, the
-- tick at which its period ends, and the threshold and the hysteresis as given.
pub record Crossed : Type 0 where
  pub monitor : List ℕ
  pub threshold : ℕ
  pub metric : ℕ
  pub object : ℕ
  pub up : Bool
  pub value : ℕ
  pub end : ℕ
  pub limit : ℕ
  pub hysteresis : ℕ

pub data Notice : Type 0 where
  FileReady : Report → Notice
  Crossing : Crossed → Notice

-- The crossing of a value, where one is kept.
abbrev pub crossed : List ℕ → Watched → ℕ → ℕ → ℕ → Option Bool → List Crossed
crossed id watched object end value None = []
crossed id watched object end value (Some up) =
    record {
      monitor = id;
      threshold = watched.threshold;
      metric = watched.metric.number;
      object = object;
      up = up;
      value = value;
      end = end;
      limit = watched.value;
      hysteresis = watched.hysteresis;
    }
    ∷ []

-- The crossing at the end of a value sequence, where the period that ends here has a value.
abbrev pub crossed_last : List ℕ → Watched → ℕ → ℕ → List ℕ → List ℕ → List Crossed
crossed_last id watched object end values [] = []
crossed_last id watched object end values (value ∷ rest) =
    crossed id watched object end value (crossing_in watched.high watched.low watched.up watched.down values (length values - 1))

module _ (terms : Side → List ℕ → Terms) where
  -- The value of the granularity period that ends with this tick, unless it is null or suspect.
  abbrev pub value_at : History → Making → ℕ → ℕ → Metric → ℕ → List ℕ
  value_at h w granularity object metric end =
      if nat_le granularity end && end % granularity == 0 && not (is_suspect terms h w (end - granularity) granularity)
      then option_to_list (measured_value terms h w object metric (end - granularity) granularity)
      else []

  -- The value sequence up to this tick: the values of the monitor's periods that end after it was armed, which is when it was made
  -- or last set to UNLOCKED.
  abbrev pub value_sequence : History → Making → ℕ → ℕ → Metric → ℕ → ℕ → List ℕ
  value_sequence h w granularity object metric armed end =
      behind (value_at h w granularity object metric) (tick_of armed) (end - tick_of armed)

  -- The crossing of one metric of one threshold on one object at this tick.
  abbrev pub crossing_at : History → Making → ℕ → ℕ → ℕ → Watched → ℕ → List Crossed
  crossing_at h w granularity armed end watched object =
      crossed_last w.id watched object end
      (value_sequence h w granularity object watched.metric armed end)
      (value_at h w granularity object watched.metric end)

  -- The crossings of one metric of one threshold: by object in tree order.
  abbrev pub crossings_by : History → Making → ℕ → ℕ → ℕ → Watched → List Crossed
  crossings_by h w granularity armed end watched = flat_map (crossing_at h w granularity armed end watched) watched.objects

  -- The crossings of a monitor that stands at this end: by threshold, by metric in catalogue order, by object in tree order.
  abbrev pub crossings_of : History → List ℕ → ℕ → Option Standing → List Crossed
  crossings_of h id end None = []
  crossings_of h id end (Some s) =
      flat_map (crossings_by h (making_of Monitor id s) (terms Monitor s.body).granularity s.armed end) (terms Monitor s.body).watched

  -- The crossings of the monitor that stands under an id at this end, by the entries before it.
  abbrev pub crossings_under : History → ℕ → List ℕ → List Crossed
  crossings_under h end id = crossings_of h id end (standing_after terms Monitor (before (60 * end) h) id)

  -- The crossings at this end, in byte order of id.
  abbrev pub crossings_at : History → ℕ → List Crossed
  crossings_at h end = flat_map (crossings_under h end) (ids_after Monitor (before (60 * end) h))

  -- The notices of an end: its files first, in their order, then its crossings.
  abbrev pub notices_at : History → ℕ → List Notice
  notices_at h end = map FileReady (files_at terms h end) ++ map Crossing (crossings_at h end)

  -- The notices, in order of the ends of their periods.
  abbrev pub notices_of : History → List Notice
  notices_of h = behind (notices_at h) 0 (tick_of (last_moment h))
