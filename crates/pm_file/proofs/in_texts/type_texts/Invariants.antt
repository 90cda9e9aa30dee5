use Rattle.std.proofs.Common.{◌≡◌, ◌++◌, map, drop}
use Rattle.pm_file.specs.Numbers.{metric_text}
use Rattle.pm_file.proofs.in_texts.type_texts.Given as goal

abbrev pub invariant-loop-metric : goal.invariant-loop-metric
invariant-loop-metric l =
    l.texts.items ++ map (metric_text l.inventory) (drop l.metric-index l.metrics) ≡ map (metric_text l.inventory) l.metrics
