use Rattle.std.proofs.Common.{sym, subst, ◌∙◌, arith}
use Rattle.pm_history.specs.History.{◌▷◌, last_moment, IsHistory}
use Rattle.pm_close.specs.DueReports.{ended_by}
use Rattle.pm_state.specs.Closing.{ClosingStands, IsEnd}
use Rattle.pm_state.specs.Opening.{is_boot, moment_after, opening}
use Rattle.pm_state.proofs.ClosingLemmas.{closing-unstored, ended-is}
use Rattle.pm_state.proofs.OnlyLemmas.{only-ended}
use Rattle.pm_state.proofs.OpeningLemmas.{ends-none, ends-some, none-unstored, closing-entered}
use Rattle.pm_notice.specs.Planned.{subscriptions_of}
use Rattle.pm_state.proofs.SubsLemmas.{subs-opening}
use Rattle.pm_state.proofs.WithinLemmas.{within-more}
use Rattle.pm_state.proofs.StateLemmas.{opening-jobs, opening-moment, adds-history, opening-goes-on}
use Rattle.pm_state.proofs.state.State.enter.Goals as goal

pub invariant_of-self-clause-within : goal.invariant_of-self-clause-within
invariant_of-self-clause-within c =
    within-more (subscriptions_of c.args.self.now.subs) _ _ c.enact.ensures.total c.args.self.now.within

pub returns-clause-stands : goal.returns-clause-stands
returns-clause-stands c = λ h moment stands prepared.
    let self = c.args.self.now in
    let at = moment_after (last_moment h) moment in
    let goes_on = ends-none self h at c.args.prepared.ended c.in-None.is prepared.ends in
    let on = opening-goes-on self.inventory h (last_moment h) at self.events goes_on stands.events stands.only in
    record {
      history = adds-history self.inventory h (opening h moment) c.args.prepared.item prepared.adds;
      begun = omega arith;
      last = prepared.at ∙ sym (opening-moment (last_moment h) at);
      jobs = opening-jobs self.inventory self.jobs h (last_moment h) at stands.jobs;
      subs = subs-opening (subscriptions_of self.subs) h _ (last_moment h) at stands.subs;
      events = on.0;
      only = on.1;
      closing =
          closing-unstored self.inventory self.jobs h (opening h moment) self.closing
          (none-unstored self.inventory h at c.args.prepared.item prepared.adds goes_on) stands.closing;
    }

pub returns-in-Some-clause-stands : goal.returns-in-Some-clause-stands
returns-in-Some-clause-stands c = λ h moment stands prepared.
    let self = c.args.self.now in
    let at = moment_after (last_moment h) moment in
    let ends = ends-some self h at c.args.prepared.ended c.in-Some.ended c.in-Some.is prepared.ends in
    let boot = is_boot (last_moment h) at in
    let m = c.args.prepared.moment in
    let history = adds-history self.inventory h (opening h moment) c.args.prepared.item prepared.adds in
    let is = subst (λ e. IsHistory (h ▷ e)) (sym (ended-is (last_moment h) at)) history in
    record {
      history = history;
      begun = omega arith;
      last = prepared.at ∙ sym (opening-moment (last_moment h) at);
      jobs = opening-jobs self.inventory self.jobs h (last_moment h) at stands.jobs;
      subs = subs-opening (subscriptions_of self.subs) h _ (last_moment h) at stands.subs;
      events = c.clear.ensures.stands self.inventory h (opening h moment) (record { slots = stands.events.slots; tick = stands.events.tick.made }) ends.0;
      only = only-ended self.inventory h (opening h moment) ends.0;
      closing =
          closing-entered self.inventory self.jobs h at c.enact.new.self
          (subst (λ k. ClosingStands self.inventory self.jobs (h ▷ ended_by boot k) c.enact.new.self) prepared.at
          (c.enact.ensures.stands self.inventory self.jobs h boot stands.closing
          (subst (λ k. IsHistory (h ▷ ended_by boot k)) (sym prepared.at) is)
          (subst (λ k. IsEnd self.inventory self.jobs h boot k self.closing c.in-Some.ended) (sym prepared.at) ends.1)));
    }
