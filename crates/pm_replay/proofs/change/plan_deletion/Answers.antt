use Rattle.pm_jobs.specs.State.{ids_on}
use Rattle.pm_jobs.proofs.FindLemmas.{stands_at}
use Rattle.pm_replay.proofs.change.plan_deletion.Goals as goal

pub returns-clause-permitted : goal.returns-clause-permitted
returns-clause-permitted c = stands_at (ids_on c.args.side c.args.jobs.now) c.in-Some.place c.args.id.now c.in-Some.ensures.place
