-- What holds of kept files over every history.
use Rattle.std.specs.Prelude.{ℕ, ◌<◌, ◌≤◌, ◌≡◌, List, length, slice_index_or}
use Rattle.pm_base.specs.Moment.{tick_of}
use Rattle.pm_history.specs.declared.entry.Entry.{Entry}
use Rattle.pm_history.specs.Entry.{moment_of}
use Rattle.pm_history.specs.History.{History, ◌▷◌, last_moment}
use Rattle.pm_history.specs.Files.{Report, files_of}
use Rattle.pm_inventory.specs.Inventory.{InventoryState}
use Rattle.pm_name.specs.FileName.{IsFileName}
use Rattle.pm_asked.specs.Asked.{terms_of}
use Rattle.pm_file.specs.Name.{report_name}
use Rattle.pm_ready.specs.Files.{File, said_by}
use Rattle.pm_ready.specs.Kept.{FilesStand}

-- An entry in the tick of the last moment adds no file, and none expires: so does any but a Boot or a Now.
abbrev pub FilesStay : Type 0
FilesStay =
    (inventory : InventoryState) (h : History) (e : Entry) (files : List File)
    → last_moment h ≤ moment_of e → tick_of (moment_of e) ≡ tick_of (last_moment h)
    → FilesStand inventory h files → FilesStand inventory (h ▷ e) files

-- No two reports of a history have files of one name.
abbrev pub NamesDistinct : Type 0
NamesDistinct =
    (inventory : InventoryState) (h : History) (name : List ℕ) (i j : ℕ) (d : Report) → i < j → j < length (files_of (terms_of inventory) h)
    → IsFileName name (report_name (said_by inventory (slice_index_or (files_of (terms_of inventory) h) i d)))
    → IsFileName name (report_name (said_by inventory (slice_index_or (files_of (terms_of inventory) h) j d))) → ⊥
