use Rattle.std.proofs.Common.{◌<◌, length, option_to_list, sym, subst, arith}
use Rattle.pm_inventory.specs.Inventory.{slots}
use Rattle.pm_inventory.specs.Slot.{def_at}
use Rattle.pm_close.specs.declared.watched.WatchedObject.{WatchedObject}
use Rattle.pm_close.specs.Watched.{SlotsWithin, watched_on}
use Rattle.pm_close.specs.WatchedOf.{ObjectBegins, ObjectsBegin}
use Rattle.pm_close.proofs.EachLemmas.{each-append}
use Rattle.pm_close.proofs.WatchedOfLemmas.{objects-more}
use Rattle.pm_close.proofs.watched_of.watched_objects.Goals as goal

pub loop-k-preserved : goal.loop-k-preserved
loop-k-preserved c =
    let inventory = c.args.inventory.now in
    let was = c.loop-k.invariant in
    let own = c.watched_object-object.ensures in
    let items = c.loop-k.watched.items in
    let one = option_to_list c.watched_object-object.result in
    let is = c.in_ok-push_some.ensures in
    let many = length (slots inventory) in
    let lt : c.loop-k.k < length c.args.objects.now = omega arith in
    record {
      numbers = objects-more inventory (def_at inventory.measures c.args.of.now.metric.number).class c.args.objects.now c.loop-k.k
          items one c.push_some.new.watched.items lt is was.numbers own.numbers;
      within = subst (SlotsWithin many) (sym is)
          (each-append (λ (o : WatchedObject). o.slot < many) items one was.within own.within);
      begin = λ numbers. subst (ObjectsBegin inventory (watched_on c.args.of.now numbers)) (sym is)
          (each-append (ObjectBegins inventory (watched_on c.args.of.now numbers)) items one (was.begin numbers) (own.begins numbers));
    }
