use Rattle.std.proofs.Common.{◌≡◌, false, take}
use Rattle.std.specs.List.{list_any}
use Rattle.pm_asked.specs.Asked.{Numbered, is_of_class}
use Rattle.pm_jobs.specs.Numbered.{numbered}
use Rattle.pm_jobs.proofs.load.is_measured.Given as goal

abbrev pub invariant-loop-metric : goal.invariant-loop-metric
invariant-loop-metric l =
    list_any (λ (metric : Numbered). is_of_class l.inventory metric.1.class l.object) (numbered l.inventory (take l.metric-index l.metrics)) ≡ false
