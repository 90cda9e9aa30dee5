use Rattle.std.proofs.Common.{◌≡◌, true, take}
use Rattle.std.specs.List.{list_all}
use Rattle.pm_jobs.specs.Rules.{is_measured}
use Rattle.pm_jobs.specs.Numbered.{numbered}
use Rattle.pm_jobs.proofs.load.are_measured.Given as goal

abbrev pub invariant-loop-metric : goal.invariant-loop-metric
invariant-loop-metric l = list_all (is_measured l.inventory l.objects) (numbered l.inventory (take l.metric-index l.metrics)) ≡ true
