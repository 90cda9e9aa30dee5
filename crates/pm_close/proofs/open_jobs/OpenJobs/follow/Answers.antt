use Rattle.std.proofs.Common.{subst, sym}
use Rattle.pm_history.specs.History.{grown}
use Rattle.pm_jobs.specs.Plan.{entries_of, jobs_after}
use Rattle.pm_close.specs.OpenJobs.{JobsOpen}
use Rattle.pm_close.proofs.JobFollowedLemmas.{follows}
use Rattle.pm_close.proofs.open_jobs.OpenJobs.follow.Goals as goal

pub returns-clause-stands : goal.returns-clause-stands
returns-clause-stands c = λ inventory jobs h suits over comes is old.
    subst (JobsOpen inventory (grown h (entries_of jobs c.args.plan.now)) (jobs_after jobs c.args.plan.now).jobs) (sym c.change.ensures)
    (follows inventory jobs h c.args.plan.now c.args.made c.args.self.now.jobs.items suits over comes is old)
