use Rattle.std.proofs.Common.{◌<◌, length, arith}
use Rattle.pm_close.specs.Measures.{quantities_for}
use Rattle.pm_close.proofs.MeasureLemmas.{adds-more}
use Rattle.pm_close.proofs.measures.add_of_class.Goals as goal

pub loop-object-preserved : goal.loop-object-preserved
loop-object-preserved c =
    let before = c.loop-object.invariant in
    let i = c.loop-object.object-index in
    let lt : i < length c.args.objects.now = omega (arith, c.loop-object-test.true) in
    record {
      reads = λ below.
          adds-more c.args.inventory.now (quantities_for c.args.inventory.now c.args.class c.args.metrics.now) c.args.objects.now i 0
          c.args.measures.now.items c.loop-object.measures.items c.add_on_object.new.measures.items lt (before.reads below)
          (c.in_ok-add_on_object.ensures.reads below);
      within = λ are. c.in_ok-add_on_object.ensures.within (before.within are);
    }
