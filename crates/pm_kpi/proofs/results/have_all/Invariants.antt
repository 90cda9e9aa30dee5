use Rattle.std.proofs.Common.{◌≡◌, drop}
use Rattle.pm_kpi.specs.Rows.{have_all}
use Rattle.pm_kpi.proofs.results.have_all.Given as goal

abbrev pub invariant-loop-measure : goal.invariant-loop-measure
invariant-loop-measure l = have_all l.types (drop l.measure-index l.measures) ≡ have_all l.types l.measures
