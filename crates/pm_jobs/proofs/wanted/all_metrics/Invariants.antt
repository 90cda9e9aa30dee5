use Rattle.std.proofs.Common.{◌≡◌, take, map}
use Rattle.std.specs.List.{flat_map}
use Rattle.pm_asked.specs.Body as asked
use Rattle.pm_jobs.specs.Content.{texts, threshold_content}
use Rattle.pm_jobs.proofs.wanted.all_metrics.Given as goal

abbrev pub invariant-loop-threshold : goal.invariant-loop-threshold
invariant-loop-threshold l = texts l.all ≡ flat_map (λ (t : asked.Threshold). t.metrics) (map threshold_content (take l.threshold-index l.thresholds))
