use Rattle.std.proofs.Common.{◌≡◌, get_or, sym, subst}
use Rattle.std.proofs.lemmas.Option.{get_or_from_slice_get}
use Rattle.pm_history.specs.declared.entry.Side.TheVariants.{Job}
use Rattle.pm_jobs.specs.Stands.{Keeps}
use Rattle.pm_ready.proofs.StepLemmas.{each_at}
use Rattle.pm_state.proofs.report_files.due_file.Goals as goal

pub returns : goal.returns
returns c = λ h s job is keep contains.
    let inventory = c.args.inventory.now in
    let jobs = c.args.jobs.now.jobs in
    let report = c.args.report.now in
    let here : get_or jobs report.job s ≡ c.at-job.result.now = get_or_from_slice_get jobs report.job c.at-job.result.now s c.at-job.ensures in
    let keeps = subst (Keeps inventory Job) here (each_at (Keeps inventory Job) jobs report.job s keep c.requires.among) in
    let earlier = c.earlier-earlier.ensures job in
    let parts = c.deref.ensures.value in
    rw (here, sym earlier, sym parts) (c.report_file.ensures h is keeps (rw (sym here, earlier, parts) contains))
