-- What `run` does: an inventory, the opening of a store that has no items yet, and a session (this project's own).
use Rattle.std.specs.Prelude.{ℕ, ◌≡◌, ◌+◌, ◌≤◌, ◌⊎◌, List, [], ◌++◌, length, Err}
use Rattle.pm_base.specs.Lines.{HasNoLine}
use Rattle.pm_outside.specs.Feed.{MOST_AHEAD}
use Rattle.pm_outside.specs.declared.feed.TheConstants.{MOST_READ}
use Rattle.pm_inventory.specs.Inventory.{InventoryState}
use Rattle.pm_inventory.specs.InventoryReading.{ReadsInventory, IsRead}
use Rattle.pm_inventory.specs.declared.inventory_reading.InventoryError.{InventoryError}
use Rattle.pm_inventory.specs.declared.inventory_reading.InventoryError.TheVariants as inventory_error
use Rattle.pm_history.specs.declared.entry.Entry.TheVariants.{Boot}
use Rattle.pm_history.specs.History.{Start, ◌▷◌}
use Rattle.pm_disk.specs.Moments.{Told}
use Rattle.pm_ledger.specs.Between.{EachBetween}
use Rattle.pm_tally.specs.Outcome.{Output, Gains}
use Rattle.pm_engine.specs.declared.error.OpenError.{OpenError}
use Rattle.pm_engine.specs.Bears.{Run, settled_at}
use Rattle.pm_top.specs.declared.status.Status.{Status}
use Rattle.pm_top.specs.declared.status.Status.TheVariants.{Memory}
use Rattle.pm_top.specs.declared.session_end.SessionEnd.{SessionEnd}
use Rattle.pm_top.specs.declared.session_end.SessionEnd.TheVariants as ends
use Rattle.pm_top.specs.Ends.{status_of_inventory, status_of_opening, status_of_session}
use Rattle.pm_top.specs.Session.{Input, input_of, Mail, Sends, store_of, IsSession}

-- A disk before a call and after it, where it tells.
pub record Device : Type 1 where
  pub IsTold : Type 0
  pub before : Told
  pub after : Told

abbrev pub device_of : Type 0 → Told → Told → Device
device_of IsTold before after = record { IsTold = IsTold; before = before; after = after }

-- Nothing was written or posted, and no call of the disk was made.
pub record IsIdle (output : Output) (mail : Mail) (device : Device) : Type 0 where
  pub gains : Gains output []
  pub sends : Sends mail [] 0
  pub untouched : device.IsTold → device.after ≡ device.before

-- The run that begins with the Boot.
abbrev pub booted : ℕ → Run
booted boot = settled_at (Start ▷ Boot boot) []

-- There was no memory to begin with, and nothing was read.
pub record IsUnbegun (input : Input) (output : Output) (mail : Mail) (device : Device) (status : Status) : Type 0 where
  pub status_is : status ≡ Memory
  pub unread : input.after ≡ input.before
  pub idle : IsIdle output mail device

-- The inventory wasn't read. Some bytes may have been read ahead.
pub record HasNoInventory (input : Input) (output : Output) (mail : Mail) (device : Device) (status : Status) : Type 0 where
  pub error : InventoryError
  pub status_is : status ≡ status_of_inventory error
  pub ahead : List ℕ
  pub few : length ahead ≤ MOST_AHEAD
  pub open_line : error ≡ inventory_error.Failed → HasNoLine ahead
  pub read : input.IsTold → ReadsInventory input.before (ahead ++ input.after) (Err error)
  pub reached : input.IsTold → error ≡ inventory_error.Limit → MOST_READ ≤ input.given + length input.before
  pub idle : IsIdle output mail device

-- The store wasn't opened, and nothing is written or posted. Where the disk held nothing yet, each image holds nothing or the Boot.
pub record IsUnopened (inventory : InventoryState) (boot : ℕ) (output : Output) (mail : Mail) (device : Device) (status : Status) : Type 0 where
  pub error : OpenError
  pub status_is : status ≡ status_of_opening error
  pub gains : Gains output []
  pub sends : Sends mail [] 0
  pub holds : device.IsTold → EachBetween inventory Start Start device.before.now → EachBetween inventory Start (Start ▷ Boot boot) device.after.now

-- The store was opened with the Boot, and what was left of the input is a session from there. Some bytes may have been read ahead, but for
-- a fault of the input.
pub record IsServed (inventory : InventoryState) (boot given : ℕ) (left : List ℕ) (IsTold : Type 0) (after : List ℕ) (output : Output)
    (mail : Mail) (device : Device) (status : Status) : Type 0 where
  pub end : SessionEnd
  pub status_is : status ≡ status_of_session end
  pub ahead : List ℕ
  pub few : length ahead ≤ MOST_AHEAD
  pub emptied : end ≡ ends.ReadFault → ahead ≡ []
  pub session : IsSession inventory (input_of IsTold given left (ahead ++ after)) output mail (store_of device.IsTold device.after) (booted boot) end

-- What follows the inventory. These bytes are left in the input then, where it tells.
abbrev pub IsOpened : InventoryState → ℕ → ℕ → List ℕ → (IsTold : Type 0) → List ℕ → Output → Mail → Device → Status → Type 0
IsOpened inventory boot given left IsTold after output mail device status =
    IsUnopened inventory boot output mail device status ⊎ IsServed inventory boot given left IsTold after output mail device status

-- The inventory was read, and these bytes were left after it. So many came before them.
pub record HasInventory (boot : ℕ) (input : Input) (output : Output) (mail : Mail) (device : Device) (status : Status) : Type 0 where
  pub inventory : InventoryState
  pub lines : ℕ
  pub given : ℕ
  pub left : List ℕ
  pub read : input.IsTold → IsRead input.before left inventory lines
  pub counted : input.IsTold → given + length left ≡ input.given + length input.before
  pub opened : IsOpened inventory boot given left input.IsTold input.after output mail device status

-- What `run` did, by its status.
abbrev pub IsRun : ℕ → Input → Output → Mail → Device → Status → Type 0
IsRun boot input output mail device status =
    IsUnbegun input output mail device status ⊎ (HasNoInventory input output mail device status ⊎ HasInventory boot input output mail device status)
