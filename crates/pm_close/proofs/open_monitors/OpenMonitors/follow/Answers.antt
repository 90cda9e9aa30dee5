use Rattle.pm_close.proofs.PlanLemmas.{followed-open, followed-many, followed-go_on}
use Rattle.pm_close.proofs.open_monitors.OpenMonitors.follow.Goals as goal

pub returns-clause-open : goal.returns-clause-open
returns-clause-open c =
    λ inventory jobs h may for kept.
    followed-open inventory jobs h c.args.plan.now c.args.made c.args.self.now.monitors.items c.follow_plan.new.self.monitors.items
    c.follow_plan.ensures may for kept

pub returns-clause-as_many : goal.returns-clause-as_many
returns-clause-as_many c =
    λ jobs many.
    followed-many jobs c.args.plan.now c.args.made c.args.self.now.monitors.items c.follow_plan.new.self.monitors.items c.requires
    c.follow_plan.ensures many

pub returns-clause-go_on : goal.returns-clause-go_on
returns-clause-go_on c =
    λ cells tick fresh on.
    followed-go_on cells tick c.args.plan.now c.args.made c.args.self.now.monitors.items c.follow_plan.new.self.monitors.items
    c.requires c.follow_plan.ensures fresh on
