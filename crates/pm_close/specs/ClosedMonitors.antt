-- What ends ticks for all monitors: a request, or a start of the program.
use Rattle.std.specs.Prelude.{ℕ, ◌≡◌, Bool, List}
use Rattle.pm_base.specs.Moment.{tick_of}
use Rattle.pm_meas.specs.declared.cell.Cell.{Cell}
use Rattle.pm_inventory.specs.Inventory.{InventoryState, slots}
use Rattle.pm_history.specs.History.{History, ◌▷◌, IsHistory, is_cut, last_moment}
use Rattle.pm_jobs.specs.State.{JobsState}
use Rattle.pm_jobs.specs.Stands.{Stands}
use Rattle.pm_close.specs.declared.cells.TickCells.{TickCells}
use Rattle.pm_close.specs.Cells.{CellsStand, AreOpen}
use Rattle.pm_close.specs.DueReports.{ended_by}

-- The entry ends the open tick and those up to its own. The cells are those of the ticks before the open one, the row is that of
-- the open one, and `cut` says whether a start of the program cuts it.
pub record MonitorsEnd (inventory : InventoryState) (jobs : JobsState) (h : History) (moment : ℕ) (boot : Bool) (kept : TickCells)
    (row : List Cell) (cut : Bool) (tick : ℕ) : Type 0 where
  pub history : IsHistory (h ▷ ended_by boot moment)
  pub stands : Stands inventory jobs h
  pub cells : CellsStand (slots inventory) h kept
  pub open_tick : AreOpen (slots inventory) h row
  pub cut_is : is_cut h (tick_of (last_moment h)) ≡ cut
  pub up_to : tick_of moment ≡ tick
