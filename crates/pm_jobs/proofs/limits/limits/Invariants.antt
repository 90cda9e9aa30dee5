use Rattle.std.proofs.Common.{◌≡◌, take, map}
use Rattle.pm_jobs.specs.Content.{threshold_content}
use Rattle.pm_jobs.specs.Stands.{bound_of, bound_asked}
use Rattle.pm_jobs.proofs.limits.limits.Given as goal

abbrev pub invariant-loop-threshold : goal.invariant-loop-threshold
invariant-loop-threshold l =
    map bound_of l.limits.items ≡ map (bound_asked l.inventory) (map threshold_content (take l.threshold-index l.thresholds))
