-- The stored items of a collector, each a file with its name (this project's own format).
use Rattle.std.specs.Prelude.{◌≡◌, ◌≤◌, ◌<◌, ◌^◌, ℕ, List, ◌∷◌, ◌++◌, length, Ok}
use Rattle.pm_form.specs.Form.{text_says}
use Rattle.pm_name.specs.FileName.{IsFileName}
use Rattle.pm_file.specs.Content.{ReportContent}
use Rattle.pm_file.specs.ReportForm.{report_form}
use Rattle.pm_file.specs.Name.{report_name}
use Rattle.pm_journal.specs.Items.{size_bytes}

-- A file and the name that it is held under.
pub record HeldFile : Type 0 where
  pub name : List ℕ
  pub text : List ℕ

-- The kind, which is 1; the length of the name in a byte, and the name; the length of the file in four bytes, the greatest
-- first, and the file.
abbrev pub item_of : HeldFile → List ℕ
item_of f = 1 ∷ length f.name ∷ f.name ++ size_bytes (length f.text) ++ f.text

-- The lengths fit their bytes.
pub record Fits (f : HeldFile) : Type 0 where
  pub name : length f.name ≤ 255
  pub text : length f.text < 2 ^ 32

-- The bytes are the item of the file.
pub record IsItem (bytes : List ℕ) (f : HeldFile) : Type 0 where
  pub is : bytes ≡ item_of f
  pub fits : Fits f

-- The bytes are the item of no file.
abbrev pub IsNoItem : List ℕ → Type 0
IsNoItem bytes = (f : HeldFile) → IsItem bytes f → ⊥

-- The text is a report, and this is its name.
pub record IsReportOf (name text : List ℕ) : Type 0 where
  pub report : ReportContent
  pub says : text_says report_form text ≡ Ok report
  pub named : IsFileName name (report_name report)
