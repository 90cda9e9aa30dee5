use Rattle.std.proofs.Common.{sym, ◌∙◌}
use Rattle.pm_notice.specs.Planned.{subscriptions_of}
use Rattle.pm_state.proofs.SubsLemmas.{cursor-here}
use Rattle.pm_state.proofs.subscribing.cursor_under.Goals as goal

pub returns-then-eq : goal.returns-then-eq
returns-then-eq c =
    cursor-here (subscriptions_of c.args.subs.now) c.args.id.now c.loop-place.place c.at-subscription.result.now c.at-subscription.ensures
    (rw c.as_bytes.ensures.value at (sym c.eq.ensures ∙ c.if-eq.true)) c.loop-place.invariant
