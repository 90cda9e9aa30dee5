use Rattle.std.proofs.Common.{◌≡◌, drop}
use Rattle.pm_kpi.specs.Rows.{have_results}
use Rattle.pm_kpi.proofs.results.have_results.Given as goal

abbrev pub invariant-loop-measure : goal.invariant-loop-measure
invariant-loop-measure l = have_results l.types l.results (drop l.measure-index l.measures) ≡ have_results l.types l.results l.measures
