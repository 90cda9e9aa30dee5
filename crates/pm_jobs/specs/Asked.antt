-- What the body of a job or of a monitor asks for, in the same words for both sides.
use Rattle.std.specs.Prelude.{ℕ, Bool, List, [], Option}
use Rattle.std.specs.List.{flat_map}
use Rattle.std.specs.Option.{option_map}
use Rattle.pm_history.specs.declared.entry.Side.{Side}
use Rattle.pm_history.specs.declared.entry.Side.TheVariants.{Job, Monitor}
use Rattle.pm_inventory.specs.Inventory.{InventoryState}
use Rattle.pm_asked.specs.Body.{Threshold, JobBody, MonitorBody, job_text, monitor_text}
use Rattle.pm_asked.specs.BodyReading.{job_body, monitor_body}
use Rattle.pm_asked.specs.Asked.{Numbered, metrics_asked, objects_asked}

-- The granularity period is in seconds, the reporting period in minutes, and 0 of a monitor. The metrics of a monitor are those of all
-- its thresholds; a job has no thresholds. `unlocked` is the state as made, and `text` the canonical text.
pub record Asked : Type 0 where
  pub unlocked : Bool
  pub granularity : ℕ
  pub reporting : ℕ
  pub metrics : List (List ℕ)
  pub objects : List (List ℕ)
  pub roots : List (List ℕ)
  pub thresholds : List Threshold
  pub text : List ℕ

abbrev pub job_asked : JobBody → Asked
job_asked body = record {
  unlocked = body.unlocked;
  granularity = body.granularity;
  reporting = body.reporting;
  metrics = body.metrics;
  objects = body.objects;
  roots = body.roots;
  thresholds = [];
  text = job_text body;
}

abbrev pub monitor_asked : MonitorBody → Asked
monitor_asked body = record {
  unlocked = body.unlocked;
  granularity = body.granularity;
  reporting = 0;
  metrics = flat_map (λ (t : Threshold). t.metrics) body.thresholds;
  objects = body.objects;
  roots = body.roots;
  thresholds = body.thresholds;
  text = monitor_text body;
}

-- What a text asks for, if it says a body of this side.
abbrev pub asked_of : Side → List ℕ → Option Asked
asked_of Job text = option_map job_asked (job_body text)
asked_of Monitor text = option_map monitor_asked (monitor_body text)

-- The metrics and the objects that are asked for, in catalogue order and in tree order.
abbrev pub metrics_of : InventoryState → Asked → List Numbered
metrics_of inventory asked = metrics_asked inventory asked.metrics

abbrev pub objects_of : InventoryState → Asked → List ℕ
objects_of inventory asked = objects_asked inventory asked.objects asked.roots
