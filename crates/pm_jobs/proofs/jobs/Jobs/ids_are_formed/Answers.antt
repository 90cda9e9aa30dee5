use Rattle.std.proofs.Common.{◌≡◌, ℕ, List, true}
use Rattle.pm_form.specs.Names.{job_id}
use Rattle.pm_history.specs.declared.entry.Side.{Side}
use Rattle.pm_history.specs.declared.entry.Side.TheVariants.{Job, Monitor}
use Rattle.pm_jobs.specs.Rules.{stands}
use Rattle.pm_jobs.specs.State.{JobsState, IsSide}
use Rattle.pm_jobs.proofs.ShownLemmas.{formed}
use Rattle.pm_jobs.proofs.jobs.Jobs.ids_are_formed.Goals as goal

all_formed : (state : JobsState) → IsSide Job state.jobs → IsSide Monitor state.monitors → (side : Side) (id : List ℕ)
    → stands state side id ≡ true → job_id id ≡ true
all_formed state jobs monitors Job id is = formed Job state.jobs id jobs.each is
all_formed state jobs monitors Monitor id is = formed Monitor state.monitors id monitors.each is

pub returns : goal.returns
returns c = rw c.self.view_is at (all_formed (record { jobs = c.self.inside.jobs.items; monitors = c.self.inside.monitors.items }) c.self.invariant.0 c.self.invariant.1)
