use Rattle.std.proofs.Common.{◌≡◌, true, refl}
use Rattle.pm_jobs.specs.Plan.{IsAt}
use Rattle.pm_jobs.specs.Rules.{stands}
use Rattle.pm_jobs.specs.State.{ids_on}
use Rattle.pm_jobs.proofs.FindLemmas.{stands_at}
use Rattle.pm_jobs.proofs.jobs.Jobs.plan_delete.Goals as goal

pub returns-in-Some-clause-answer : goal.returns-in-Some-clause-answer
returns-in-Some-clause-answer c =
    let a = c.args in
    let at : IsAt a.self.now a.side a.id.now c.in-Some.place = rw c.on.ensures.items at c.in-Some.ensures.place in
    let there : stands a.self.now a.side a.id.now ≡ true = stands_at (ids_on a.side a.self.now) c.in-Some.place a.id.now at in
    (rw there refl, (refl, refl, at))
