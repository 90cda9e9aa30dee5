use Rattle.std.proofs.Common.{◌<◌, ◌∙◌, length, sym, arith}
use Rattle.pm_inventory.proofs.SlotLemmas.{objects-yes, objects-no}
use Rattle.pm_inventory.proofs.inventory.objects_before.Goals as goal
use Rattle.pm_inventory.proofs.inventory.objects_before.Goals.{then-has_class, else-has_class}

pub loop-object-preserved : goal.loop-object-preserved
loop-object-preserved c =
    let within : c.loop-object.object < length c.args.tree.now = omega (arith, c.requires, c.loop-object-test.true) in
    elim c.if-has_class.branch [
      | then-has_class w ↦ record {
        count = w.count-is ∙ objects-yes c.args.tree.now c.args.class c.loop-object.object c.loop-object.count within (sym c.has_class.ensures ∙ w.if-has_class.true) c.loop-object.invariant.count;
        most = omega arith;
      }
      | else-has_class w ↦ record {
        count = w.count-is ∙ objects-no c.args.tree.now c.args.class c.loop-object.object c.loop-object.count within (sym c.has_class.ensures ∙ w.if-has_class.false) c.loop-object.invariant.count;
        most = omega arith;
      }
    ]
