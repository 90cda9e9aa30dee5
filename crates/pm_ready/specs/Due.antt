-- The report of a job from what is kept of it, and its file.
use Rattle.std.specs.Prelude.{ℕ, List, Result, IfOk, map, option_to_list, Option}
use Rattle.std.specs.declared.alloc.AllocError.{AllocError}
use Rattle.pm_inventory.specs.Inventory.{InventoryState}
use Rattle.pm_history.specs.declared.entry.Side.TheVariants.{Job}
use Rattle.pm_history.specs.Files.{Report}
use Rattle.pm_asked.specs.Asked.{terms_of}
use Rattle.pm_jobs.specs.declared.standing.Standing.{Standing}
use Rattle.pm_close.specs.declared.part.PartValues.{PartValues}
use Rattle.pm_close.specs.Files.{report_with}
use Rattle.pm_ready.specs.declared.ready.ReadyFile.{ReadyFile}
use Rattle.pm_ready.specs.Files.{AreFilesOf, file_of}

-- The report of a job that begins with this tick, by the values of its parts.
abbrev pub job_report : InventoryState → Standing → ℕ → List PartValues → Report
job_report inventory job begin parts = report_with job.id (terms_of inventory Job job.body) begin parts

-- The answer is the files of reports: of none, or of one.
abbrev pub GivesFiles : InventoryState → List Report → Result (Option ReadyFile) AllocError → Type 0
GivesFiles inventory reports answer = IfOk answer (λ (file : Option ReadyFile). AreFilesOf inventory reports (map file_of (option_to_list file)))
