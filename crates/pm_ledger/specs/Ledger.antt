-- A ledger and the first area of its disk, between two calls.
use Rattle.std.specs.Prelude.{ℕ, ◌≡◌, List, [], ◌∷◌, ◌++◌, Option, Some, None}
use Rattle.pm_disk.specs.Moments.{DiskState}
use Rattle.pm_inventory.specs.Inventory.{InventoryState}
use Rattle.pm_history.specs.History.{History}
use Rattle.pm_journal.specs.declared.item.Item as journal_item
use Rattle.pm_journal.specs.Journal as journal
use Rattle.pm_journal.specs.Reading.{IsNext}
use Rattle.pm_store.specs.declared.item.Item1.{Item1}
use Rattle.pm_ledger.specs.declared.ledger.Ledger.{Ledger}
use Rattle.pm_ledger.specs.Stored.{HasText, HasTexts}

-- The length of the area.
abbrev pub length_of : Ledger → ℕ
length_of ledger = journal.length_of ledger.journal

-- The offset of the gate that it has come to.
abbrev pub gate_of : Ledger → ℕ
gate_of ledger = journal.gate_of ledger.journal

-- It isn't spent.
abbrev pub IsUsable : Ledger → Type 0
IsUsable ledger = journal.IsUsable ledger.journal

-- It has told all its items, so that more may be added.
abbrev pub IsReady : Ledger → Type 0
IsReady ledger = journal.IsReady ledger.journal

-- The area, as it reads and in every image, is as the ledger knows it.
abbrev pub IsTied : Ledger → DiskState → Type 0
IsTied ledger disk = journal.IsTied ledger.journal disk.first

-- The list of the area is on the disk. Of its items the ledger has told or added the one part, and is to tell the other.
abbrev pub IsAt : Ledger → DiskState → List (List ℕ) → List (List ℕ) → Type 0
IsAt ledger disk told left = journal.IsAt ledger.journal disk.first told left

-- The items of the area are those of a history, and the ledger has told or added them all.
pub record IsLedgerOf (inventory : InventoryState) (ledger : Ledger) (disk : DiskState) (h : History) : Type 0 where
  pub texts : List (List ℕ)
  pub at : IsAt ledger disk texts []
  pub has : HasTexts inventory texts h

-- The next item is told; or there is none left, and more may be added.
abbrev pub TellsNext : Option Item1 → Ledger → DiskState → List (List ℕ) → List (List ℕ) → Type 0
TellsNext None ledger disk told left = (left ≡ []) × IsAt ledger disk told []
TellsNext (Some item) ledger disk told left =
    (text : List ℕ) × (rest : List (List ℕ)) × (left ≡ text ∷ rest) × HasText item text × IsAt ledger disk (told ++ text ∷ []) rest

-- The bytes of the next item are found.
abbrev pub Finds : Option journal_item.Item → Ledger → Ledger → DiskState → DiskState → List (List ℕ) → List (List ℕ) → Type 0
Finds next old new disk disk' told left = IsNext next old.journal new.journal disk.first disk'.first told left
