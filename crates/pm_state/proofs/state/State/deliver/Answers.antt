use Rattle.std.proofs.Common.{◌≡◌, ℕ, true, subst}
use Rattle.pm_notice.specs.Planned.{subscriptions_of}
use Rattle.pm_notice.specs.Round.{are_within}
use Rattle.pm_notice.specs.StandFor.{cursors_of}
use Rattle.pm_state.proofs.WithinLemmas.{within-rounds}
use Rattle.pm_state.proofs.state.State.deliver.Goals as goal

pub invariant_of-self-clause-within : goal.invariant_of-self-clause-within
invariant_of-self-clause-within g c =
    subst (λ (t : ℕ). are_within t (subscriptions_of c.deliver.new.self) ≡ true) c.total-total.ensures (within-rounds _ _ _ _ _ c.deliver.ensures.rounds)

pub returns-clause-stays : goal.returns-clause-stays
returns-clause-stays g c = λ h stands. record {
  history = stands.history;
  begun = stands.begun;
  last = stands.last;
  jobs = stands.jobs;
  subs = c.deliver.ensures.stand h (cursors_of (subscriptions_of c.args.self.now.subs)) stands.subs;
  events = stands.events;
  only = stands.only;
  closing = stands.closing;
}
