use Rattle.std.proofs.Common.{◌≡◌, length, get_or, Some, sym, arith}
use Rattle.std.specs.Prelude.{slice_get}
use Rattle.pm_asked.specs.Asked.{Numbered, measured_objects}
use Rattle.pm_jobs.proofs.NumberedLemmas.{sum_more}
use Rattle.pm_jobs.proofs.load.count_pairs.Goals as goal

pub loop-metric-preserved : goal.loop-metric-preserved
loop-metric-preserved c =
    let inventory = c.args.inventory.now in
    let def = c.def.result.now in
    let at : slice_get inventory.measures (get_or c.args.metrics.now c.loop-metric.metric-index 0) ≡ Some def = rw c.catalogue-catalogue.ensures at c.def.ensures in
    let more = sum_more inventory (λ (m : Numbered). length (measured_objects inventory c.args.objects.now m.1.class)) c.args.metrics.now c.loop-metric.metric-index
    def c.loop-metric-test.true at in
    record {
      is = rw (c.loop-metric.invariant.is, c.count_measured-count.ensures.count) (sym more);
      most = omega (arith, c.loop-metric.invariant.most, c.count_measured-count.ensures.most);
    }
