-- How the ends of commands show in the status of the program (this project's own).
use Rattle.std.specs.Prelude.{◌≡◌, Bool, true, false}
use Rattle.pm_base.specs.declared.code.Code.TheVariants.{H9, Z1}
use Rattle.pm_outside.specs.declared.feed.TheConstants.{MOST_READ}
use Rattle.pm_inventory.specs.declared.inventory_reading.InventoryError.{InventoryError}
use Rattle.pm_inventory.specs.declared.inventory_reading.InventoryError.TheVariants as inventory
use Rattle.pm_engine.specs.declared.error.OpenError.{OpenError}
use Rattle.pm_engine.specs.declared.error.OpenError.TheVariants as opening
use Rattle.pm_tally.specs.declared.tally_end.TallyEnd.{TallyEnd}
use Rattle.pm_tally.specs.declared.tally_end.TallyEnd.TheVariants as tally
use Rattle.pm_top.specs.declared.session_end.SessionEnd.{SessionEnd}
use Rattle.pm_top.specs.declared.session_end.SessionEnd.TheVariants as session
use Rattle.pm_top.specs.declared.status.Status.{Status}
use Rattle.pm_top.specs.declared.status.Status.TheVariants.{Done, BadInput, ReadFault, WriteFault, StoreFault, Foreign, Garbled, StoreFull, BadInventory, Memory}

-- The status of a tally's end.
abbrev pub status_of_tally : TallyEnd → Status
status_of_tally tally.Done = Done
status_of_tally (tally.Refused line code) = BadInput line code
status_of_tally tally.TooLong = BadInput MOST_READ Z1
status_of_tally tally.ReadFault = ReadFault
status_of_tally tally.WriteFault = WriteFault
status_of_tally (tally.BadInventory line code) = BadInventory line code
status_of_tally tally.Memory = Memory

-- The status of a run whose inventory isn't read.
abbrev pub status_of_inventory : InventoryError → Status
status_of_inventory (inventory.Refused line code) = BadInventory line code
status_of_inventory inventory.Failed = ReadFault
status_of_inventory inventory.Limit = BadInput MOST_READ Z1
status_of_inventory inventory.Memory = Memory

-- The status of a run whose store isn't opened.
abbrev pub status_of_opening : OpenError → Status
status_of_opening opening.StoreFault = StoreFault
status_of_opening opening.Foreign = Foreign
status_of_opening (opening.Garbled offset) = Garbled offset
status_of_opening (opening.StoreFull length' need) = StoreFull length' need
status_of_opening opening.Memory = Memory

-- The disk failed.
abbrev pub is_failed_opening : OpenError → Bool
is_failed_opening opening.StoreFault = true
is_failed_opening opening.Foreign = false
is_failed_opening (opening.Garbled offset) = false
is_failed_opening (opening.StoreFull length' need) = false
is_failed_opening opening.Memory = false

-- The status of a run's session.
abbrev pub status_of_session : SessionEnd → Status
status_of_session session.Ended = Done
status_of_session session.Closed = Done
status_of_session (session.Framing code offset) = BadInput offset code
status_of_session (session.CutShort offset) = BadInput offset H9
status_of_session session.Limit = BadInput MOST_READ Z1
status_of_session session.ReadFault = ReadFault
status_of_session session.WriteFault = WriteFault
status_of_session session.StoreFault = StoreFault
status_of_session (session.StoreFull length' need) = StoreFull length' need
status_of_session session.Memory = Memory

-- The status is that of an end of which this holds.
abbrev pub IsStatusOf : (TallyEnd → Type 0) → Status → Type 0
IsStatusOf Ends status = (end : TallyEnd) × Ends end × (status ≡ status_of_tally end)

-- The input failed.
abbrev pub is_read_fault : Status → Bool
is_read_fault ReadFault = true
is_read_fault _ = false

-- The output failed.
abbrev pub is_write_fault : Status → Bool
is_write_fault WriteFault = true
is_write_fault _ = false

-- The disk failed.
abbrev pub is_store_fault : Status → Bool
is_store_fault StoreFault = true
is_store_fault _ = false
