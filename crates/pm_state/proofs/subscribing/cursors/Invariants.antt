use Rattle.std.proofs.Common.{◌≡◌, ◌++◌, drop}
use Rattle.pm_notice.specs.Planned.{subscriptions_of}
use Rattle.pm_notice.specs.StandFor.{cursors_of}
use Rattle.pm_state.proofs.subscribing.cursors.Given as goal

abbrev pub invariant-loop-place : goal.invariant-loop-place
invariant-loop-place l = l.cursors.items ++ cursors_of (drop l.place (subscriptions_of l.subs)) ≡ cursors_of (subscriptions_of l.subs)
