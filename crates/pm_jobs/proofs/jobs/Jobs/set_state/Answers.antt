use Rattle.std.proofs.Common.{arith}
use Rattle.pm_history.specs.declared.entry.Side.TheVariants.{Job, Monitor}
use Rattle.pm_jobs.proofs.ItemLemmas.{side-moved_at, load-moved_at}
use Rattle.pm_jobs.proofs.jobs.Jobs.set_state.Goals as goal

pub invariant_of-self : goal.invariant_of-self
invariant_of-self c =
    let a = c.args in
    let total = load-moved_at a.moment a.unlocked a.place c.self.inside.jobs.items in
    let h = c.self.invariant in
    rw c.set_at.ensures (side-moved_at Job a.moment a.unlocked a.place c.self.inside.jobs.items h.0, h.1, omega (arith, total, h.2))

pub invariant_of-self-in-Monitor : goal.invariant_of-self-in-Monitor
invariant_of-self-in-Monitor c =
    let a = c.args in
    let total = load-moved_at a.moment a.unlocked a.place c.self.inside.monitors.items in
    let h = c.self.invariant in
    rw c.set_at-in-Monitor.ensures (h.0, side-moved_at Monitor a.moment a.unlocked a.place c.self.inside.monitors.items h.1, omega (arith, total, h.2))
