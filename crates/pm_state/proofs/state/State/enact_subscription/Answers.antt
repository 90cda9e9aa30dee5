use Rattle.std.proofs.Common.{◌≡◌, true, sym, subst}
use Rattle.pm_history.specs.History.{History}
use Rattle.pm_notice.specs.Planned.{subscriptions_of}
use Rattle.pm_notice.specs.Round.{are_within}
use Rattle.pm_notice.specs.StandFor.{StandFor, cursors_of}
use Rattle.pm_state.proofs.StateLemmas.{changes-go-on}
use Rattle.pm_state.proofs.SubsLemmas.{sub-at, sub-grown, sub-jobs, sub-closing}
use Rattle.pm_state.proofs.WithinLemmas.{within-enacted}
use Rattle.pm_state.specs.SubsGiven.{sub_entries}
use Rattle.pm_state.proofs.state.State.enact_subscription.Goals as goal

pub invariant_of-self-clause-within : goal.invariant_of-self-clause-within
invariant_of-self-clause-within c =
    let self = c.args.self.now in
    let total = self.closing.notices.total in
    let plan = c.args.change.plan in
    subst (λ subs. are_within total subs ≡ true) (sym c.enact-done.ensures.done)
    (within-enacted total plan (subscriptions_of self.subs) c.requires.begins self.within)

pub returns-clause-stands : goal.returns-clause-stands
returns-clause-stands c = λ h stands.
    let self = c.args.self.now in
    let subs = subscriptions_of self.subs in
    let plan = c.args.change.plan in
    let entries = sub_entries subs self.last plan in
    let on = changes-go-on self.inventory h self.last self.events entries self.in_range (sub-at subs plan self.last)
    (record { history = stands.history; begun = stands.begun; last = stands.last; events_stand = stands.events; only = stands.only }) in
    record {
      history = on.history;
      begun = on.begun;
      last = on.last;
      jobs = sub-jobs self.inventory self.jobs h subs plan self.last stands.jobs;
      subs = subst (λ (k : History). StandFor (subscriptions_of c.enact-done.new.self) k (cursors_of (subscriptions_of c.enact-done.new.self))) (sub-grown subs plan self.last h)
          (c.enact-done.ensures.stand h (cursors_of subs) self.last stands.subs);
      events = on.events_stand;
      only = on.only;
      closing = sub-closing self.inventory self.jobs h subs plan self.last self.closing stands.last on.history stands.closing;
    }
