use Rattle.std.proofs.Common.{◌≡◌, drop}
use Rattle.pm_notice.specs.Plan.{subscription_under}
use Rattle.pm_notice.specs.Planned.{subscriptions_of}
use Rattle.pm_state.proofs.subscribing.cursor_under.Given as goal

abbrev pub invariant-loop-place : goal.invariant-loop-place
invariant-loop-place l = subscription_under l.id (drop l.place (subscriptions_of l.subs)) ≡ subscription_under l.id (subscriptions_of l.subs)
