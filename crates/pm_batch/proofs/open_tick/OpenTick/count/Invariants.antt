use Rattle.std.proofs.Common.{◌≡◌, ℕ, drop, take}
use Rattle.pm_inventory.specs.Inventory.{InventoryState}
use Rattle.pm_history.specs.History.{History}
use Rattle.pm_batch.specs.Entries.{with_batch}
use Rattle.pm_batch.specs.OpenTick.{TickStands, HasRoom, width}
use Rattle.pm_batch.proofs.open_tick.OpenTick.count.Given as goal

abbrev pub invariant-loop-hit : goal.invariant-loop-hit
invariant-loop-hit l = record {
  wide : width l.self ≡ width l.initial.self;
  room : HasRoom l.self (drop l.hit-index l.hits);
  stands : (inventory : InventoryState) (h : History) (moment : ℕ) → TickStands inventory h l.initial.self → TickStands inventory (with_batch inventory h moment (take l.hit-index l.hits)) l.self;
}
