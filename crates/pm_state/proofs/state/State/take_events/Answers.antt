use Rattle.std.proofs.Common.{inl, inr, sym, ◌∙◌, ap}
use Rattle.pm_history.specs.History.{last_moment}
use Rattle.pm_state.specs.Given.{Given, ok, refused_at}
use Rattle.pm_state.specs.Step.{accepted_body, events_by, events_given}
use Rattle.pm_state.proofs.ClosingLemmas.{closing-batch}
use Rattle.pm_notice.specs.Planned.{subscriptions_of}
use Rattle.pm_state.proofs.StateLemmas.{taken, read-sound, refused-is}
use Rattle.pm_state.proofs.SubsLemmas.{subs-unstored}
use Rattle.pm_state.proofs.state.State.take_events.Goals as goal

pub returns-in-Ok-accepted-clause-stands : goal.returns-in-Ok-accepted-clause-stands
returns-in-Ok-accepted-clause-stands c = λ h stands.
    let self = c.args.self.now in
    let read = c.in-Ok.ensures.stands self.inventory h (last_moment h) _ stands.events in
    let hits = c.read.new.self.batch in
    let after = c.count.ensures.stands self.inventory h (last_moment h) hits read.2 in
    let takes = taken self.inventory h c.args.body.now self.jobs hits self.events c.count.new.self self.last
    (record { history = stands.history; begun = stands.begun; last = stands.last; events_stand = stands.events; only = stands.only })
    stands.jobs read.0 (read-sound self.inventory h c.read.new.self hits read.2) after in
    inr (
      c.in-Ok-accepted.ensures ∙ (ap (λ n. ok 202 (accepted_body n)) read.1 ∙ sym (ap (λ a. (events_by self.inventory h c.args.body.now a).reply) read.0)),
      record {
        history = takes.on.history;
        begun = takes.on.begun;
        last = takes.on.last;
        jobs = takes.stands;
        subs = subs-unstored (subscriptions_of self.subs) h _ (events_given self.inventory h c.args.body.now).entries takes.unstored stands.subs;
        events = takes.on.events_stand;
        only = takes.on.only;
        closing = closing-batch self.inventory self.jobs h (events_given self.inventory h c.args.body.now).entries self.closing takes.unstored stands.closing;
      },
    )

pub returns-in-Err-Refused-clause-stands : goal.returns-in-Err-Refused-clause-stands
returns-in-Err-Refused-clause-stands c = λ h stands.
    let self = c.args.self.now in
    let read = c.in-Err-Refused.ensures.stands self.inventory h (last_moment h) _ stands.events in
    let given = refused-is self.inventory h c.args.body.now c.in-Err-Refused.field-0 c.in-Err-Refused.line c.in-Err-Refused.code c.in-Err-Refused.field-0-is read.0 in
    inr (
      c.refused_at.ensures ∙ ((λ i. refused_at (c.in-Err-Refused.code-is i) (c.in-Err-Refused.line-is i)) ∙ sym (ap (λ (g : Given). g.reply) given)),
      rw (ap (λ (g : Given). g.entries) given) (record {
        history = stands.history;
        begun = stands.begun;
        last = stands.last;
        jobs = stands.jobs;
        subs = stands.subs;
        events = read.1;
        only = stands.only;
        closing = stands.closing;
      }),
    )

pub returns-in-Err-Memory-clause-stands : goal.returns-in-Err-Memory-clause-stands
returns-in-Err-Memory-clause-stands c = λ h stands.
    let self = c.args.self.now in
    let read = c.in-Err-Memory.ensures.stands self.inventory h (last_moment h) _ stands.events in
    inl (
      c.no_memory-in-Err-Memory.ensures,
      record {
        history = stands.history;
        begun = stands.begun;
        last = stands.last;
        jobs = stands.jobs;
        subs = stands.subs;
        events = read.1;
        only = stands.only;
        closing = stands.closing;
      },
    )
