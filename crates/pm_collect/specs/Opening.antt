-- When a store isn't opened.
use Rattle.std.specs.Prelude.{◌≡◌, ◌⊎◌, ◌≤◌, ℕ, true, false, List, ◌++◌, length, map, All}
use Rattle.pm_disk.specs.Moments.{DiskState, Told}
use Rattle.pm_journal.specs.Items.{prefix}
use Rattle.pm_journal.specs.Opening.{IsForeign}
use Rattle.pm_journal.specs.Reading.{IsOpenItem, IsGarbled}
use Rattle.pm_notice.specs.NoticeForm.{are_distinct}
use Rattle.pm_collect.specs.declared.collector.Collector.{Collector}
use Rattle.pm_collect.specs.declared.collector.TheConstants.{MOST_BYTES}
use Rattle.pm_collect.specs.declared.error.CollectError.{CollectError}
use Rattle.pm_collect.specs.declared.error.CollectError.TheVariants.{StoreFault, Foreign, Garbled, Memory}
use Rattle.pm_collect.specs.declared.names.Names.{Names}
use Rattle.pm_collect.specs.Call.{is_one_of}
use Rattle.pm_collect.specs.Maps.{has}
use Rattle.pm_collect.specs.Stored.{HeldFile, item_of, IsItem, IsReportOf}
use Rattle.pm_collect.specs.Collector.{names_in, IsHeld, Reads}

-- The bytes are the item of no report under its name, but of one whose name is among these at most.
abbrev pub IsBadItem : List (List ℕ) → List ℕ → Type 0
IsBadItem names item = (f : HeldFile) → IsItem item f → IsReportOf f.name f.text → is_one_of names f.name ≡ false → ⊥

-- The bytes have the mark and the items of some files that may be held, none twice. The gate behind them, at this offset, is
-- open, and its item doesn't end within the bytes, or is none that may be held besides.
pub record IsGarbledAt (bytes : List ℕ) (offset : ℕ) : Type 0 where
  pub files : List HeldFile
  pub each : All IsHeld files
  pub once : are_distinct (names_in files) ≡ true
  pub behind : List ℕ
  pub is : bytes ≡ prefix (map item_of files) ++ behind
  pub place : offset ≡ length (prefix (map item_of files))
  pub within : length bytes ≤ MOST_BYTES
  pub why : IsGarbled behind ⊎ ((item : List ℕ) × IsOpenItem behind item × IsBadItem (names_in files) item)

-- `open`. A foreign area reads as it did.
abbrev pub RefusesToOpen : (IsTold : Type 0) → Told → Told → CollectError → Type 0
RefusesToOpen IsTold told told' StoreFault = Unit {0}
RefusesToOpen IsTold told told' Foreign = IsTold → IsForeign MOST_BYTES told.now.first.seen × (told'.now.first.seen ≡ told.now.first.seen)
RefusesToOpen IsTold told told' (Garbled offset) = IsTold → IsGarbledAt told.now.first.seen offset
RefusesToOpen IsTold told told' Memory = Unit {0}
RefusesToOpen IsTold told told' e = ⊥

-- The next file of a store isn't taken.
abbrev pub RefusesNext : (IsTold : Type 0) → Collector → DiskState → CollectError → Type 0
RefusesNext IsTold old disk StoreFault = Unit {0}
RefusesNext IsTold old disk (Garbled offset) =
    IsTold → (files : List HeldFile) (left : List (List ℕ)) → Reads old disk files left → IsGarbledAt disk.first.seen offset
RefusesNext IsTold old disk Memory = Unit {0}
RefusesNext IsTold old disk e = ⊥

-- The item, whose gate is at this offset, isn't taken: it is that of no report under its name that isn't held.
abbrev pub RefusesItem : List ℕ → ℕ → Names → CollectError → Type 0
RefusesItem item gate names (Garbled offset) =
    (offset ≡ gate) × ((f : HeldFile) → IsItem item f → IsReportOf f.name f.text → has names.held f.name ≡ false → ⊥)
RefusesItem item gate names Memory = Unit {0}
RefusesItem item gate names e = ⊥
