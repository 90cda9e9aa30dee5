-- The files of reports: what a history reports, named and written (TS 32.432; that the ManagedElement sends it is this project's own).
use Rattle.std.specs.Prelude.{ℕ, ◌≡◌, List, [], ◌∷◌, slice_index_or}
use Rattle.serde_json.specs.Written.{compact_text}
use Rattle.pm_inventory.specs.Inventory.{InventoryState}
use Rattle.pm_name.specs.FileName.{IsFileName}
use Rattle.pm_history.specs.Files.{Report}
use Rattle.pm_file.specs.Content.{ReportContent}
use Rattle.pm_file.specs.ReportForm.{report_form}
use Rattle.pm_file.specs.Name.{report_name}
use Rattle.pm_file.specs.Numbers.{report_in_texts}
use Rattle.pm_ready.specs.declared.ready.ReadyFile.{ReadyFile}

-- The ManagedElement, which is the first object of a tree.
abbrev pub element_of : InventoryState → List ℕ
element_of inventory = slice_index_or inventory.objects 0 []

-- What the file of a report says.
abbrev pub said_by : InventoryState → Report → ReportContent
said_by inventory report = report_in_texts inventory (element_of inventory) report

-- A file: its name, the moment at which it is ready, and its bytes.
pub record File : Type 0 where
  pub name : List ℕ
  pub ready : ℕ
  pub text : List ℕ

-- It is the file that says this: named after it, ready at its end, and written as a report is.
pub record Says (content : ReportContent) (file : File) : Type 0 where
  pub named : IsFileName file.name (report_name content)
  pub ready : file.ready ≡ content.end
  pub text : file.text ≡ compact_text (report_form.tree content)

-- It is that of a report.
abbrev pub IsFileOf : InventoryState → Report → File → Type 0
IsFileOf inventory report file = Says (said_by inventory report) file

-- They are those of reports, in the same order.
abbrev pub AreFilesOf : InventoryState → List Report → List File → Type 0
AreFilesOf inventory [] [] = Unit {0}
AreFilesOf inventory (report ∷ reports) (file ∷ files) = IsFileOf inventory report file × AreFilesOf inventory reports files
AreFilesOf inventory reports files = ⊥

-- A file of the program.
abbrev pub file_of : ReadyFile → File
file_of f = record { name = f.info.name; ready = f.info.ready; text = f.text }
