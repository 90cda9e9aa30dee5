use Rattle.std.proofs.Common.{◌<◌, length, arith}
use Rattle.pm_close.specs.Measures.{quantity_on}
use Rattle.pm_close.proofs.MeasureLemmas.{adds-more}
use Rattle.pm_close.proofs.measures.add_on_object.Goals as goal

pub loop-metric-preserved : goal.loop-metric-preserved
loop-metric-preserved c =
    let before = c.loop-metric.invariant in
    let i = c.loop-metric.metric-index in
    let lt : i < length c.args.metrics.now = omega (arith, c.loop-metric-test.true) in
    record {
      reads = λ below.
          adds-more c.args.inventory.now (quantity_on c.args.inventory.now c.args.class c.args.object) c.args.metrics.now i 0
          c.args.measures.now.items c.loop-metric.measures.items c.add_measure.new.measures.items lt (before.reads below)
          (c.in_ok-add_measure.ensures.reads (below i lt));
      within = λ are. c.in_ok-add_measure.ensures.within (before.within are);
    }
