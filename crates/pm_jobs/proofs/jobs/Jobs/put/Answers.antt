use Rattle.std.proofs.Common.{◌≡◌, ◌≤◌, ℕ, List, length, arith, lit<}
use Rattle.std.proofs.lemmas.List.{length-map}
use Rattle.pm_history.specs.declared.entry.Side.TheVariants.{Job, Monitor}
use Rattle.pm_jobs.specs.declared.standing.Standing.{Standing}
use Rattle.pm_jobs.specs.State.{JobsState, ids}
use Rattle.pm_jobs.specs.Plan.{HasRoom, place_of}
use Rattle.pm_jobs.proofs.ItemLemmas.{side-insert, load-insert}
use Rattle.pm_jobs.proofs.IdLemmas.{place-within}
use Rattle.pm_jobs.proofs.jobs.Jobs.put.Goals as goal

within : (items : List Standing) (id : List ℕ) (place : ℕ) → place ≡ place_of id (ids items) → place ≤ length items
within items id place is = omega (arith, is, place-within id (ids items), length-map items (λ (t : Standing). t.id))

pub insert-requires : goal.insert-requires
insert-requires c =
    let state : JobsState = record { jobs = c.self.inside.jobs.items; monitors = c.self.inside.monitors.items } in
    let room : HasRoom state Job c.args.place c.args.standing = rw (← c.self.view_is, c.in-Job.is) at c.requires in
    (lit< tt, (within state.jobs c.args.standing.id c.args.place room.at, room.few))

pub invariant_of-self : goal.invariant_of-self
invariant_of-self c =
    let state : JobsState = record { jobs = c.self.inside.jobs.items; monitors = c.self.inside.monitors.items } in
    let room : HasRoom state Job c.args.place c.args.standing = rw (← c.self.view_is, c.in-Job.is) at c.requires in
    let h = c.self.invariant in
    let total = load-insert state.jobs c.args.place c.args.standing in
    rw c.insert.ensures.items
    (side-insert Job state.jobs c.args.place c.args.standing h.0 room.fresh room.item, h.1, omega (arith, total, room.load))

pub insert-requires-in-Monitor : goal.insert-requires-in-Monitor
insert-requires-in-Monitor c =
    let state : JobsState = record { jobs = c.self.inside.jobs.items; monitors = c.self.inside.monitors.items } in
    let room : HasRoom state Monitor c.args.place c.args.standing = rw (← c.self.view_is, c.in-Monitor.is) at c.requires in
    (lit< tt, (within state.monitors c.args.standing.id c.args.place room.at, room.few))

pub invariant_of-self-in-Monitor : goal.invariant_of-self-in-Monitor
invariant_of-self-in-Monitor c =
    let state : JobsState = record { jobs = c.self.inside.jobs.items; monitors = c.self.inside.monitors.items } in
    let room : HasRoom state Monitor c.args.place c.args.standing = rw (← c.self.view_is, c.in-Monitor.is) at c.requires in
    let h = c.self.invariant in
    let total = load-insert state.monitors c.args.place c.args.standing in
    rw c.insert-in-Monitor.ensures.items
    (h.0, side-insert Monitor state.monitors c.args.place c.args.standing h.1 room.fresh room.item, omega (arith, total, room.load))
