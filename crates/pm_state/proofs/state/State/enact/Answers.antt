use Rattle.std.proofs.Common.{sym, subst}
use Rattle.pm_history.specs.History.{grown, IsHistory}
use Rattle.pm_jobs.specs.Plan.{entries_of}
use Rattle.pm_jobs.specs.State.{JobsState}
use Rattle.pm_jobs.specs.Stands.{Stands}
use Rattle.pm_close.specs.Closer.{CloserStands}
use Rattle.pm_state.proofs.ClosingLemmas.{files-changed, notices-changed}
use Rattle.pm_notice.specs.Planned.{subscriptions_of}
use Rattle.pm_notice.specs.StandFor.{StandFor, cursors_of}
use Rattle.pm_state.proofs.StateLemmas.{changes-go-on}
use Rattle.pm_state.proofs.SubsLemmas.{subs-changed}
use Rattle.pm_state.proofs.state.State.enact.Goals as goal

pub returns-clause-stands : goal.returns-clause-stands
returns-clause-stands c = λ h given stands change.
    let self = c.args.self.now in
    let plan = c.args.change.plan in
    let on = changes-go-on self.inventory h self.last self.events given.entries self.in_range change.at
    (record { history = stands.history; begun = stands.begun; last = stands.last; events_stand = stands.events; only = stands.only }) in
    let followed = c.follow.ensures.stands h stands.closing.closer stands.jobs change.over (subst (λ es. IsHistory (grown h es)) change.entries on.history) in
    let after = subst (λ (j : JobsState). CloserStands self.inventory j (grown h (entries_of self.jobs plan)) c.follow.new.self) (sym c.enact.ensures.after) followed in (
      sym change.reply,
      record {
        history = on.history;
        begun = on.begun;
        last = on.last;
        jobs = subst (λ es. Stands self.inventory c.enact.new.self (grown h es)) (sym change.entries) (c.enact.ensures.stands self.inventory h stands.jobs change.over);
        subs = subst (λ es. StandFor (subscriptions_of self.subs) (grown h es) (cursors_of (subscriptions_of self.subs))) (sym change.entries)
            (subs-changed (subscriptions_of self.subs) h _ self.jobs plan stands.subs);
        events = on.events_stand;
        only = on.only;
        closing = record {
          closer = subst (λ es. CloserStands self.inventory c.enact.new.self (grown h es) c.follow.new.self) (sym change.entries) after;
          files = files-changed self.inventory h self.last given.entries self.closing.files.files stands.last change.at stands.closing.files;
          notices = notices-changed self.inventory h self.last given.entries self.closing.notices stands.last change.at stands.closing.notices;
        };
      },
    )
