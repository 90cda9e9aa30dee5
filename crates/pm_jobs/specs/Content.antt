-- The bodies of the program, seen as those of the definitions.
use Rattle.std.specs.Prelude.{ℕ, Bool, true, false, List, map, Vec, String, string_bytes}
use Rattle.std.specs.declared.alloc.Global.{Global}
use Rattle.pm_asked.specs.Body as asked
use Rattle.pm_jobs.specs.declared.body.State.{State}
use Rattle.pm_jobs.specs.declared.body.State.TheVariants.{Locked, Unlocked}
use Rattle.pm_jobs.specs.declared.body.Directions.{Directions}
use Rattle.pm_jobs.specs.declared.body.Directions.TheVariants.{Up, Down, UpAndDown}
use Rattle.pm_jobs.specs.declared.body.JobBody.{JobBody}
use Rattle.pm_jobs.specs.declared.body.Threshold.{Threshold}
use Rattle.pm_jobs.specs.declared.body.MonitorBody.{MonitorBody}

abbrev pub is_unlocked : State → Bool
is_unlocked Locked = false
is_unlocked Unlocked = true

abbrev pub directions_content : Directions → asked.Directions
directions_content Up = asked.Up
directions_content Down = asked.Down
directions_content UpAndDown = asked.UpAndDown

abbrev pub texts : Vec (String Global) Global → List (List ℕ)
texts v = map string_bytes v.items

abbrev pub job_content : JobBody → asked.JobBody
job_content body = record {
  unlocked = is_unlocked body.state;
  granularity = body.granularity;
  objects = texts body.objects;
  metrics = texts body.metrics;
  reporting = body.reporting;
  roots = texts body.roots;
}

abbrev pub threshold_content : Threshold → asked.Threshold
threshold_content threshold = record {
  metrics = texts threshold.metrics;
  directions = directions_content threshold.directions;
  value = threshold.value;
  hysteresis = threshold.hysteresis;
}

abbrev pub monitor_content : MonitorBody → asked.MonitorBody
monitor_content body = record {
  unlocked = is_unlocked body.state;
  granularity = body.granularity;
  objects = texts body.objects;
  roots = texts body.roots;
  thresholds = map threshold_content body.thresholds.items;
}
