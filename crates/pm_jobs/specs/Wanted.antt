-- A body of either side as the program holds it, seen as what it asks for.
use Rattle.std.specs.Prelude.{ℕ, List, map}
use Rattle.pm_history.specs.declared.entry.Side.{Side}
use Rattle.pm_history.specs.declared.entry.Side.TheVariants.{Job, Monitor}
use Rattle.pm_jobs.specs.declared.error.BodyError.{BodyError}
use Rattle.pm_jobs.specs.declared.error.BodyError.TheVariants.{J1}
use Rattle.pm_jobs.specs.declared.wanted.Wanted.{Wanted}
use Rattle.pm_jobs.specs.Asked.{Asked}
use Rattle.pm_jobs.specs.Content.{texts, threshold_content}
use Rattle.pm_jobs.specs.Reading.{monitor_rule}

abbrev pub wanted_content : Wanted → Asked
wanted_content w = record {
  unlocked = w.unlocked;
  granularity = w.granularity;
  reporting = w.reporting;
  metrics = texts w.metrics;
  objects = texts w.objects;
  roots = texts w.roots;
  thresholds = map threshold_content w.thresholds.items;
  text = w.text;
}

-- The first rule that a text breaks which says no body of this side.
abbrev pub text_rule : Side → List ℕ → BodyError
text_rule Job text = J1
text_rule Monitor text = monitor_rule text
