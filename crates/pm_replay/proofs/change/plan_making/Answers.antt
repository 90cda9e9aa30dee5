use Rattle.pm_replay.proofs.FoundLemmas.{making-permitted}
use Rattle.pm_replay.proofs.change.plan_making.Goals as goal

pub returns-then-makes-clause-permitted : goal.returns-then-makes-clause-permitted
returns-then-makes-clause-permitted c =
    making-permitted c.args.inventory.now c.args.jobs.now c.args.moment c.args.side c.args.id.now c.args.body.now c.in-Ok.plan c.in-Ok.ensures.answer.0
    c.in-Ok.ensures.answer.1 (c.makes.ensures.0 c.if-makes.true)
