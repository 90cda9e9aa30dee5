-- Which files are kept: those of the history that are not expired (TS 28.532 has the time of expiry; a day is this project's own).
use Rattle.std.specs.Prelude.{ℕ, ◌+◌, ◌*◌, ◌≡◌, Bool, List, nat_lt, Option, Some, None, Contains}
use Rattle.std.specs.List.{filter}
use Rattle.serde_json.specs.Written.{compact_text}
use Rattle.pm_inventory.specs.Inventory.{InventoryState}
use Rattle.pm_name.specs.FileName.{IsFileName}
use Rattle.pm_history.specs.History.{History, last_moment}
use Rattle.pm_history.specs.Files.{Report, files_of}
use Rattle.pm_asked.specs.Asked.{terms_of}
use Rattle.pm_file.specs.ReportForm.{report_form}
use Rattle.pm_file.specs.Name.{report_name}
use Rattle.pm_ready.specs.Files.{File, said_by, AreFilesOf}

-- Whether what is ready at a moment is not expired at another.
abbrev pub lasts : ℕ → ℕ → Bool
lasts moment ready = nat_lt moment (ready + 86400)

-- The reports of a history whose files are not expired at its last moment, oldest first.
abbrev pub kept_reports : InventoryState → History → List Report
kept_reports inventory h = filter (λ (r : Report). lasts (last_moment h) (60 * r.end)) (files_of (terms_of inventory) h)

-- These files are those.
abbrev pub FilesStand : InventoryState → History → List File → Type 0
FilesStand inventory h files = AreFilesOf inventory (kept_reports inventory h) files

-- What is kept: the files, oldest first, and how many more there is room for.
pub record FilesState : Type 0 where
  pub files : List File
  pub room : ℕ

-- A report whose file is kept has this name, and this text.
pub record IsServed (inventory : InventoryState) (h : History) (name text : List ℕ) : Type 0 where
  pub report : Report
  pub kept : Contains (kept_reports inventory h) report
  pub named : IsFileName name (report_name (said_by inventory report))
  pub written : text ≡ compact_text (report_form.tree (said_by inventory report))

-- The answer is the text of the file of this name; nothing where none is kept that has it.
abbrev pub Serves : InventoryState → History → List ℕ → Option (List ℕ) → Type 0
Serves inventory h name (Some text) = IsServed inventory h name text
Serves inventory h name None = (text : List ℕ) → IsServed inventory h name text → ⊥
