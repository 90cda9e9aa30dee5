use Rattle.std.proofs.Common.{◌≡◌, ◌≤◌, ◌*◌, length, take}
use Rattle.pm_inventory.specs.Inventory.{slots_of}
use Rattle.pm_inventory.proofs.inventory.count_slots.Given as goal

abbrev pub invariant-loop-metric : goal.invariant-loop-metric
invariant-loop-metric l = record {
  count : l.count ≡ length (slots_of l.tree (take l.metric l.catalogue));
  most : l.count ≤ 256 * l.metric;
}
