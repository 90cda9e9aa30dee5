use Rattle.std.proofs.Common.{◌≡◌, map, take}
use Rattle.std.specs.List.{filter}
use Rattle.pm_asked.specs.Asked.{Numbered, metric_of, same_class}
use Rattle.pm_jobs.specs.Numbered.{numbered}
use Rattle.pm_ready.proofs.measured.metrics_of.Given as goal

abbrev pub invariant-loop-number : goal.invariant-loop-number
invariant-loop-number l =
    l.found.items ≡ map metric_of (filter (λ (m : Numbered). same_class m.1.class l.class) (numbered l.inventory (take l.number-index l.metrics)))
