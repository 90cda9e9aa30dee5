-- What ends with ticks, as it is handed in: files and crossings.
use Rattle.std.specs.Prelude.{ℕ, ◌+◌, ◌<◌, ◌≤◌, ◌≡◌, ◌++◌, List, length, map, slice_index_or}
use Rattle.std.specs.List.{AllByRecursion}
use Rattle.pm_inventory.specs.Inventory.{InventoryState}
use Rattle.pm_history.specs.History.{History}
use Rattle.pm_history.specs.Ticks.{behind}
use Rattle.pm_history.specs.Files.{Report, files_at}
use Rattle.pm_history.specs.Notices.{crossings_at}
use Rattle.pm_asked.specs.Asked.{terms_of}
use Rattle.pm_jobs.specs.State.{JobsState, ids}
use Rattle.pm_close.specs.declared.open_monitors_tick.EndCrossings.{EndCrossings}
use Rattle.pm_close.specs.MonitorPlans.{all_told}
use Rattle.pm_ready.specs.declared.ready.ReadyFile.{ReadyFile}
use Rattle.pm_ready.specs.Files.{AreFilesOf, file_of}
use Rattle.pm_notify.specs.Tellable.{IsTellable}

-- The files begin with those of a history at this end, and the others are of later ends; the crossings are those at this end.
pub record IsEnd (inventory : InventoryState) (jobs : JobsState) (h : History) (end : ℕ) (later : List Report)
    (files : List ReadyFile) (crossings : EndCrossings) : Type 0 where
  pub front : AreFilesOf inventory (files_at (terms_of inventory) h end ++ later) (map file_of files)
  pub others : AllByRecursion (λ (r : Report). end < r.end) later
  pub crossed : all_told (ids jobs.monitors) end crossings.crossings.items ≡ crossings_at (terms_of inventory) h end
  pub tellable : AllByRecursion (IsTellable inventory) (crossings_at (terms_of inventory) h end)
  pub in_range : end ≤ 4223371679

-- The files are those of a history at the ends after this tick, one for each of the crossings, and the crossings are those at each end.
pub record AreEnds (inventory : InventoryState) (jobs : JobsState) (h : History) (from : ℕ) (files : List ReadyFile)
    (crossings : List EndCrossings) : Type 0 where
  pub ready : AreFilesOf inventory (behind (files_at (terms_of inventory) h) from (length crossings)) (map file_of files)
  pub crossed : (k : ℕ) (d : EndCrossings) → k < length crossings
      → all_told (ids jobs.monitors) (from + k + 1) (slice_index_or crossings k d).crossings.items
      ≡ crossings_at (terms_of inventory) h (from + k + 1)
  pub tellable : (k : ℕ) → k < length crossings → AllByRecursion (IsTellable inventory) (crossings_at (terms_of inventory) h (from + k + 1))
  pub in_range : from + length crossings ≤ 4223371679
