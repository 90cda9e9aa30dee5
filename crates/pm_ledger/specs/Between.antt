-- Which histories the images of a disk hold, at a moment in a call.
use Rattle.std.specs.Prelude.{ℕ, List}
use Rattle.pm_disk.specs.Moments.{DiskState, IsDiskImage}
use Rattle.pm_inventory.specs.Inventory.{InventoryState}
use Rattle.pm_history.specs.History.{History}
use Rattle.pm_items.specs.Kept.{IsBeginning}
use Rattle.pm_ledger.specs.Stored.{Holds}

-- h begins with a, and b begins with h.
pub record IsBetween (a h b : History) : Type 0 where
  pub from : IsBeginning a h
  pub to : IsBeginning h b

-- The bytes of an area hold a history between the two.
pub record HoldsBetween (inventory : InventoryState) (a b : History) (bytes : List ℕ) : Type 0 where
  pub h : History
  pub between : IsBetween a h b
  pub holds : Holds inventory bytes h

-- The first area of each image of the disk holds a history between the two.
pub record EachBetween (inventory : InventoryState) (a b : History) (disk : DiskState) : Type 0 where
  pub each : (image : List ℕ × List ℕ) → IsDiskImage disk image → HoldsBetween inventory a b image.0
