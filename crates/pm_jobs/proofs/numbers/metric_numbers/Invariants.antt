use Rattle.std.proofs.Common.{◌≡◌, take, map, string_bytes}
use Rattle.std.specs.List.{list_any}
use Rattle.pm_asked.specs.Asked.{asks_for}
use Rattle.pm_jobs.specs.Places.{places_where}
use Rattle.pm_jobs.proofs.numbers.metric_numbers.Given as goal

abbrev pub invariant-loop-metric : goal.invariant-loop-metric
invariant-loop-metric l = l.metrics.items ≡ places_where (λ def. list_any (asks_for def) (map string_bytes l.texts)) (take l.metric l.inventory.measures)
