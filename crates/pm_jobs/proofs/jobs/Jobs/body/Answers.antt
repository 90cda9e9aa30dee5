use Rattle.std.proofs.Common.{◌≡◌}
use Rattle.std.specs.Prelude.{is_some}
use Rattle.pm_jobs.specs.Rules.{stands}
use Rattle.pm_jobs.specs.Shown.{body_shown}
use Rattle.pm_jobs.specs.State.{on, AreItems}
use Rattle.pm_jobs.proofs.ShownLemmas.{some_shown, exists_if}
use Rattle.pm_jobs.proofs.jobs.Jobs.body.Goals as goal

pub returns-clause-exists : goal.returns-clause-exists
returns-clause-exists c =
    let a = c.args in
    let items : AreItems a.side (on a.side a.self.now) = rw (← c.on.ensures.items) c.on.ensures.each in
    let some : is_some (body_shown a.self.now a.side a.id.now) ≡ stands a.self.now a.side a.id.now = some_shown a.side a.id.now (on a.side a.self.now) items in
    exists_if c.shown_at.result (body_shown a.self.now a.side a.id.now) _ (rw c.on.ensures.items at c.shown_at.ensures) some
