use Rattle.std.proofs.Common.{◌≡◌, map, take}
use Rattle.pm_history.specs.declared.metric.Metric.{Metric}
use Rattle.pm_ready.proofs.numbered.numbers_of.Given as goal

abbrev pub invariant-loop-metric : goal.invariant-loop-metric
invariant-loop-metric l = l.numbers.items ≡ map (λ (m : Metric). m.number) (take l.metric-index l.metrics)
