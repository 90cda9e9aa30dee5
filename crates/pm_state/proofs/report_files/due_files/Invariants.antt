use Rattle.std.proofs.Common.{◌≡◌, ◌++◌, List, map, take}
use Rattle.std.specs.List.{AllByRecursion}
use Rattle.pm_history.specs.declared.entry.Side.TheVariants.{Job}
use Rattle.pm_history.specs.History.{History, IsHistory}
use Rattle.pm_history.specs.Files.{Report, files_of}
use Rattle.pm_asked.specs.Asked.{terms_of}
use Rattle.pm_jobs.specs.Stands.{Keeps}
use Rattle.pm_close.specs.DueReports.{AreFiles}
use Rattle.pm_ready.specs.Files.{AreFilesOf, file_of}
use Rattle.pm_state.proofs.report_files.due_files.Given as goal

abbrev pub invariant-loop-report : goal.invariant-loop-report
invariant-loop-report l = (h : History) (before added : List Report) → IsHistory h → AllByRecursion (Keeps l.inventory Job) l.jobs.jobs
    → files_of (terms_of l.inventory) h ≡ before ++ added
    → AreFiles l.inventory l.jobs.jobs l.closer.jobs.jobs.items added l.reports
    → AreFilesOf l.inventory (take l.report-index added) (map file_of l.files.items)
