use Rattle.std.proofs.Common.{◌≡◌, drop, map}
use Rattle.serde_json.specs.View.{items_view}
use Rattle.pm_asked.specs.BodyReading.{thresholds_of}
use Rattle.pm_jobs.specs.Content.{threshold_content}
use Rattle.pm_jobs.proofs.EachLemmas.{joined}
use Rattle.pm_jobs.proofs.monitor_reading.each_threshold.Given as goal

abbrev pub invariant-loop-item : goal.invariant-loop-item
invariant-loop-item l =
    thresholds_of (items_view l.items)
    ≡ joined (map threshold_content l.thresholds.items) (thresholds_of (items_view (drop l.item-index l.items)))
