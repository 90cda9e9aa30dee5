use Rattle.pm_history.specs.declared.entry.Side.{Side}
use Rattle.pm_history.specs.declared.entry.Side.TheVariants.{Job, Monitor}
use Rattle.pm_jobs.specs.State.{JobsState, ids_on, AreApart, IsSide}
use Rattle.pm_jobs.proofs.EnactLemmas.{makes, moves, deletes}
use Rattle.pm_jobs.proofs.KeepLemmas.{keep_after}
use Rattle.pm_jobs.proofs.jobs.Jobs.enact.Goals as goal

apart_on : (state : JobsState) (side : Side) → IsSide Job state.jobs → IsSide Monitor state.monitors → AreApart (ids_on side state)
apart_on state Job jobs monitors = jobs.apart
apart_on state Monitor jobs monitors = monitors.apart

pub returns-in-Make-clause-stands : goal.returns-in-Make-clause-stands
returns-in-Make-clause-stands c =
    λ inventory h is over.
    rw (c.put.ensures, c.in-Make.is)
    (makes inventory c.args.self.now h c.in-Make.side c.in-Make.place c.in-Make.standing (rw c.in-Make.is at c.requires) (rw c.in-Make.is at over) is)

pub returns-in-Move-clause-stands : goal.returns-in-Move-clause-stands
returns-in-Move-clause-stands c =
    let state : JobsState = record { jobs = c.self.inside.jobs.items; monitors = c.self.inside.monitors.items } in
    let side = c.in-Move.side in
    let apart : AreApart (ids_on side c.args.self.now) = rw (← c.self.view_is) (apart_on state side c.self.invariant.0 c.self.invariant.1) in
    λ inventory h is over.
    rw (c.set_state.ensures, c.in-Move.is)
    (moves inventory c.args.self.now h side c.in-Move.place c.in-Move.moment c.in-Move.unlocked apart (rw c.in-Move.is at c.requires) is)

pub returns-in-Delete-clause-stands : goal.returns-in-Delete-clause-stands
returns-in-Delete-clause-stands c =
    let state : JobsState = record { jobs = c.self.inside.jobs.items; monitors = c.self.inside.monitors.items } in
    let side = c.in-Delete.side in
    let apart : AreApart (ids_on side c.args.self.now) = rw (← c.self.view_is) (apart_on state side c.self.invariant.0 c.self.invariant.1) in
    λ inventory h is over.
    rw (c.remove.ensures, c.in-Delete.is)
    (deletes inventory c.args.self.now h side c.in-Delete.place c.in-Delete.moment apart (rw c.in-Delete.is at c.requires) is)

pub returns-in-Move-clause-keep : goal.returns-in-Move-clause-keep
returns-in-Move-clause-keep c = λ inventory all over.
    rw (c.set_state.ensures) (rw c.in-Move.is at (keep_after inventory c.args.self.now c.args.plan all over))
