-- The notices of the program that tell those of a history (TS 28.532; their texts are this project's own).
use Rattle.std.specs.Prelude.{ℕ, ◌+◌, ◌*◌, ◌≡◌, List, [], ◌∷◌, slice_index_or}
use Rattle.serde_json.specs.Written.{compact_text}
use Rattle.pm_inventory.specs.Inventory.{InventoryState}
use Rattle.pm_history.specs.Files.{Report}
use Rattle.pm_history.specs.Notices as history
use Rattle.pm_file.specs.Numbers.{metric_text}
use Rattle.pm_notice.specs.declared.notice.Notice.{Notice}
use Rattle.pm_notice.specs.NoticeForm.{FileReady, Crossing, file_ready_form, crossing_form, direction_text}
use Rattle.pm_ready.specs.Files.{File, IsFileOf, element_of}
use Rattle.pm_ready.specs.Listing.{listed}

-- What the notice of this number says of a file. The ManagedElement tells it.
abbrev pub file_said : InventoryState → ℕ → File → FileReady
file_said inventory n file = record { event = file.ready; file = listed file; number = n; object = element_of inventory }

-- What it says of a crossing: by the names of object and metric, at the moment at which the granularity period ends.
abbrev pub crossing_said : InventoryState → ℕ → history.Crossed → Crossing
crossing_said inventory n c =
    record {
      event = 60 * c.end;
      hysteresis = c.hysteresis;
      monitor = c.monitor;
      number = n;
      object = slice_index_or inventory.objects c.object [];
      value = c.value;
      metric = metric_text inventory c.metric;
      direction = direction_text c.up;
      threshold = c.limit;
    }

-- It is the notice of this number that the file of a report is ready.
pub record IsOfFile (inventory : InventoryState) (n : ℕ) (report : Report) (posted : Notice) : Type 0 where
  pub file : File
  pub of : IsFileOf inventory report file
  pub number : posted.number ≡ n
  pub end : posted.end ≡ 60 * report.end
  pub body : posted.body ≡ compact_text (file_ready_form.tree (file_said inventory n file))

-- It is the notice of this number of a crossing.
pub record IsOfCrossing (inventory : InventoryState) (n : ℕ) (c : history.Crossed) (posted : Notice) : Type 0 where
  pub number : posted.number ≡ n
  pub end : posted.end ≡ 60 * c.end
  pub body : posted.body ≡ compact_text (crossing_form.tree (crossing_said inventory n c))

-- It is the notice of this number that tells what a notice of a history says.
abbrev pub IsNoticeOf : InventoryState → ℕ → history.Notice → Notice → Type 0
IsNoticeOf inventory n (history.FileReady report) posted = IsOfFile inventory n report posted
IsNoticeOf inventory n (history.Crossing c) posted = IsOfCrossing inventory n c posted

-- They tell these, in the same order, numbered from here on.
abbrev pub AreNoticesFrom : InventoryState → ℕ → List history.Notice → List Notice → Type 0
AreNoticesFrom inventory n [] [] = Unit {0}
AreNoticesFrom inventory n (told ∷ tolds) (posted ∷ posteds) = IsNoticeOf inventory n told posted × AreNoticesFrom inventory (n + 1) tolds posteds
AreNoticesFrom inventory n tolds posteds = ⊥
