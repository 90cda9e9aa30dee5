use Rattle.std.proofs.Common.{◌∙◌, [], ◌∷◌, get_or, length, ap, arith}
use Rattle.std.proofs.lemmas.List.{length-append}
use Rattle.pm_inventory.proofs.SlotLemmas.{places-push}
use Rattle.pm_inventory.proofs.inventory.places.Goals as goal

pub loop-object-preserved : goal.loop-object-preserved
loop-object-preserved c = record {
  many = omega (arith, ap length c.in_ok-push.ensures.items, length-append c.loop-object.places.items (c.objects_before.result ∷ []), c.loop-object.invariant.many);
  each = λ k class lt passes.
      ap (λ items. get_or items k 0) c.in_ok-push.ensures.items
      ∙ places-push c.args.tree.now c.loop-object.places.items c.loop-object.object c.objects_before.result c.class.result c.loop-object.invariant.many c.loop-object.invariant.each c.class.ensures c.objects_before.ensures.count k class lt passes;
}
