-- A collector and the first area of its disk, between two calls.
use Rattle.std.specs.Prelude.{◌≡◌, ◌⊎◌, ◌≤◌, ◌^◌, ℕ, Bool, true, false, List, [], ◌∷◌, ◌++◌, map, length, All}
use Rattle.pm_disk.specs.Area.{IsImage}
use Rattle.pm_disk.specs.Moments.{DiskState}
use Rattle.pm_journal.specs.Items.{HasItems, IsWhole}
use Rattle.pm_journal.specs.Journal as journal
use Rattle.pm_notice.specs.NoticeForm.{are_distinct}
use Rattle.pm_collect.specs.declared.collector.Collector.{Collector}
use Rattle.pm_collect.specs.Call.{Call, is_one_of}
use Rattle.pm_collect.specs.declared.names.Names.{Names}
use Rattle.pm_collect.specs.Maps.{has, place_of, HasOneMore, HasPlace}
use Rattle.pm_collect.specs.Names.{IsAfter}
use Rattle.pm_collect.specs.Stored.{HeldFile, Fits, item_of, IsItem, IsReportOf}
use Rattle.pm_collect.specs.Places.{place_in, file_offset}

abbrev pub length_of : Collector → ℕ
length_of collector = journal.length_of collector.journal

-- It isn't spent: it has read its store, so that files may be kept.
abbrev pub IsReady : Collector → Type 0
IsReady collector = journal.IsReady collector.journal

-- It isn't spent.
abbrev pub IsUsable : Collector → Type 0
IsUsable collector = journal.IsUsable collector.journal

-- The area, as it reads and in every image, is as the collector knows it.
abbrev pub IsTied : Collector → DiskState → Type 0
IsTied collector disk = journal.IsTied collector.journal disk.first

-- The names of files.
abbrev pub names_in : List HeldFile → List (List ℕ)
names_in files = map (λ (f : HeldFile). f.name) files

-- A file that may be held: a report, under its name.
pub record IsHeld (f : HeldFile) : Type 0 where
  pub fits : Fits f
  pub report : IsReportOf f.name f.text

-- The collector holds these files, each once, has stored them in this order, and knows where.
pub record Holds (collector : Collector) (disk : DiskState) (files : List HeldFile) : Type 0 where
  pub at : journal.IsAt collector.journal disk.first (map item_of files) []
  pub each : All IsHeld files
  pub once : are_distinct (names_in files) ≡ true
  pub names : (name : List ℕ) → has collector.names.held name ≡ is_one_of (names_in files) name
  pub places : (name : List ℕ) → place_of collector.names.held name ≡ place_in files name
  pub opening : List (List ℕ)
  pub calls : List Call
  pub after : IsAfter opening calls collector.names

-- The bytes of an area have the items of these files, and its list ends at a closed gate.
pub record HasFiles (bytes : List ℕ) (files : List HeldFile) : Type 0 where
  pub whole : IsWhole bytes
  pub items : HasItems bytes (map item_of files)

-- Each image of the disk has the one or the other files in its first area.
abbrev pub EachHas : List HeldFile → List HeldFile → DiskState → Type 0
EachHas before after disk = (image : List ℕ) → IsImage disk.first image → HasFiles image before ⊎ HasFiles image after

-- While its store is read: the collector has taken these files from the beginning of the list, and the items left follow. None
-- is wanted.
pub record Reads (collector : Collector) (disk : DiskState) (files : List HeldFile) (left : List (List ℕ)) : Type 0 where
  pub at : journal.IsAt collector.journal disk.first (map item_of files) left
  pub each : All IsHeld files
  pub once : are_distinct (names_in files) ≡ true
  pub names : IsAfter (names_in files) [] collector.names
  pub places : (name : List ℕ) → place_of collector.names.held name ≡ place_in files name

-- The next item is a file that may be held, and is taken; or there is none.
abbrev pub TakesNext : Bool → Collector → DiskState → List HeldFile → List (List ℕ) → Type 0
TakesNext true collector disk files left =
    (f : HeldFile) × (rest : List (List ℕ)) × (left ≡ item_of f ∷ rest) × Reads collector disk (files ++ f ∷ []) rest
TakesNext false collector disk files left = (left ≡ []) × Reads collector disk files []

-- The item, whose gate is at this offset, is that of a file that isn't held yet, and is taken.
pub record Takes (item : List ℕ) (gate : ℕ) (old new : Names) : Type 0 where
  pub file : HeldFile
  pub is : IsItem item file
  pub report : IsReportOf file.name file.text
  pub free : has old.held file.name ≡ false
  pub held : HasOneMore file.name old.held new.held
  pub placed : gate ≤ 2 ^ 32 → HasPlace file.name (record { offset = file_offset gate file.name; size = length file.text }) old.held new.held
  pub wanted : (name : List ℕ) → has old.wanted name ≡ false → has new.wanted name ≡ false

-- The collector holds the files that the first area had, and wants none.
pub record IsOpened (old new : DiskState) (collector : Collector) : Type 0 where
  pub files : List HeldFile
  pub has : HasFiles old.first.seen files
  pub holds : Holds collector new files
  pub after : IsAfter (names_in files) [] collector.names
