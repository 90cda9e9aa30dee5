use Rattle.pm_notice.specs.Planned.{subscriptions_of}
use Rattle.pm_state.proofs.WithinLemmas.{remove-begins}
use Rattle.pm_state.proofs.state.State.unsubscribe.Goals as goal

pub returns-clause-begins : goal.returns-clause-begins
returns-clause-begins c = remove-begins _ (subscriptions_of c.args.self.now.subs) c.args.id.now c.plan-plan.result c.sub_change.result c.plan-plan.ensures.answer c.sub_change.ensures.plan
