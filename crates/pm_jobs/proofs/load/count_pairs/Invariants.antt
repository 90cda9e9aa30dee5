use Rattle.std.proofs.Common.{◌≡◌, ◌≤◌, ◌*◌, take}
use Rattle.pm_asked.specs.Asked.{pairs}
use Rattle.pm_jobs.specs.Numbered.{numbered}
use Rattle.pm_jobs.proofs.load.count_pairs.Given as goal

abbrev pub invariant-loop-metric : goal.invariant-loop-metric
invariant-loop-metric l = record {
  is : l.count ≡ pairs l.inventory (numbered l.inventory (take l.metric-index l.metrics)) l.objects;
  most : l.count ≤ 256 * l.metric-index;
}
