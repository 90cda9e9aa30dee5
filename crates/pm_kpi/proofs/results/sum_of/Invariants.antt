use Rattle.std.proofs.Common.{◌≡◌, ◌≤◌, ◌+◌, ◌-◌, ◌*◌, ◌^◌, drop}
use Rattle.pm_kpi.specs.Rows.{sum_of}
use Rattle.pm_kpi.proofs.results.sum_of.Given as goal

abbrev pub invariant-loop-measure : goal.invariant-loop-measure
invariant-loop-measure l = record {
  value : l.sum + sum_of l.types l.results (drop l.measure-index l.measures) ≡ sum_of l.types l.results l.measures;
  small : l.sum ≤ l.measure-index * (2 ^ 64 - 1);
}
