use Rattle.std.proofs.Common.{◌≡◌, ℕ, List, length, take}
use Rattle.pm_inventory.specs.Inventory.{slots}
use Rattle.pm_inventory.specs.Slot.{def_at}
use Rattle.pm_asked.specs.Asked.{measured_objects}
use Rattle.pm_close.specs.Watched.{SlotsWithin, watched_on, object_numbers}
use Rattle.pm_close.specs.WatchedOf.{ObjectsBegin}
use Rattle.pm_close.proofs.watched_of.watched_objects.Given as goal

abbrev pub invariant-loop-k : goal.invariant-loop-k
invariant-loop-k l = record {
  numbers : object_numbers l.watched.items
      ≡ measured_objects l.inventory (take l.k l.objects) (def_at l.inventory.measures l.of.metric.number).class;
  within : SlotsWithin (length (slots l.inventory)) l.watched.items;
  begin : (numbers : List ℕ) → ObjectsBegin l.inventory (watched_on l.of numbers) l.watched.items;
}
