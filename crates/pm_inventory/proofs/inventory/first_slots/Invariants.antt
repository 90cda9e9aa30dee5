use Rattle.std.proofs.Common.{◌≡◌, ◌≤◌, ◌<◌, ◌*◌, ℕ, length, take, get_or}
use Rattle.pm_inventory.specs.Inventory.{slots_of}
use Rattle.pm_inventory.proofs.inventory.first_slots.Given as goal

abbrev pub invariant-loop-metric : goal.invariant-loop-metric
invariant-loop-metric l = record {
  count : l.count ≡ length (slots_of l.tree (take l.metric l.catalogue));
  most : l.count ≤ 256 * l.metric;
  many : length l.first.items ≡ l.metric;
  each : (k : ℕ) → k < l.metric → get_or l.first.items k 0 ≡ length (slots_of l.tree (take k l.catalogue));
}
