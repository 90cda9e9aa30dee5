use Rattle.std.proofs.Common.{arith}
use Rattle.pm_history.specs.declared.entry.Side.TheVariants.{Job, Monitor}
use Rattle.pm_jobs.proofs.ItemLemmas.{side-remove, load-remove}
use Rattle.pm_jobs.proofs.jobs.Jobs.remove.Goals as goal

pub invariant_of-self : goal.invariant_of-self
invariant_of-self c =
    let items = c.self.inside.jobs.items in
    let total = load-remove items c.args.place in
    let h = c.self.invariant in
    rw c.remove.ensures.items (side-remove Job items c.args.place h.0, h.1, omega (arith, total, h.2))

pub invariant_of-self-in-Monitor : goal.invariant_of-self-in-Monitor
invariant_of-self-in-Monitor c =
    let items = c.self.inside.monitors.items in
    let total = load-remove items c.args.place in
    let h = c.self.invariant in
    rw c.remove-in-Monitor.ensures.items (h.0, side-remove Monitor items c.args.place h.1, omega (arith, total, h.2))
