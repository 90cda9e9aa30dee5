use Rattle.std.proofs.Common.{map, subst, arith}
use Rattle.std.proofs.lemmas.List.{take_all}
use Rattle.pm_history.specs.Files.{files_of}
use Rattle.pm_asked.specs.Asked.{terms_of}
use Rattle.pm_ready.specs.Files.{AreFilesOf, file_of}
use Rattle.pm_state.proofs.DueLemmas.{as-many, next-file}
use Rattle.pm_state.proofs.report_files.due_files.Goals as goal

pub loop-report-preserved : goal.loop-report-preserved
loop-report-preserved c = λ h before added is keep adds are.
    let inventory = c.args.inventory.now in
    next-file inventory c.args.jobs.now.jobs c.args.closer.now.jobs.jobs.items (files_of (terms_of inventory) h) before added c.args.reports.now
    c.loop-report.report-index c.report-item.result c.in_ok-file.file _ _ are c.requires.paired.of_jobs c.requires.among adds c.loop-report-test.true c.report-item.is
    (λ s job contains. c.in_ok-file.ensures h s job is keep contains) c.in_ok-push_file.ensures (c.loop-report.invariant h before added is keep adds are)

pub returns : goal.returns
returns c = λ h before added is keep adds are.
    let many = as-many c.args.inventory.now c.args.jobs.now.jobs c.args.closer.now.jobs.jobs.items added c.args.reports.now are in
    subst (λ rs. AreFilesOf c.args.inventory.now rs (map file_of c.loop-report.files.items))
    (take_all c.loop-report.report-index added (omega (arith, many, c.loop-report-test.false))) (c.loop-report.invariant h before added is keep adds are)
