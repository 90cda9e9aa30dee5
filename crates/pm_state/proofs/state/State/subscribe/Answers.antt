use Rattle.std.proofs.Common.{arith}
use Rattle.pm_notice.specs.Planned.{subscriptions_of}
use Rattle.pm_state.proofs.WithinLemmas.{make-begins}
use Rattle.pm_state.proofs.state.State.subscribe.Goals as goal

pub returns-clause-begins : goal.returns-clause-begins
returns-clause-begins c =
    make-begins _ (subscriptions_of c.args.self.now.subs) c.args.id.now c.args.body.now c.total-cursor.result c.plan-plan.result c.sub_change.result (omega (arith, c.total-cursor.ensures))
    c.plan-plan.ensures.answer c.sub_change.ensures.plan
