use Rattle.std.proofs.Common.{◌≡◌, false, take}
use Rattle.std.specs.List.{list_any}
use Rattle.pm_asked.specs.Asked.{asks_for}
use Rattle.pm_jobs.proofs.numbers.is_metric.Given as goal

abbrev pub invariant-loop-metric : goal.invariant-loop-metric
invariant-loop-metric l = list_any (λ def. asks_for def l.text) (take l.metric l.catalogue) ≡ false
