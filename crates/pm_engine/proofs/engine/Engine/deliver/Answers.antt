use Rattle.std.proofs.Common.{◌≡◌, length, refl, sym, subst}
use Rattle.pm_history.specs.History.{History}
use Rattle.pm_notice.specs.Planned.{subscriptions_of}
use Rattle.pm_notice.specs.StandFor.{cursors_of}
use Rattle.pm_notice.proofs.AllRoundsLemmas.{all_rounds, all_posts}
use Rattle.pm_notify.specs.Kept.{notices_of}
use Rattle.pm_notify.specs.Notices.{AreNoticesFrom}
use Rattle.pm_notify.proofs.KeptLemmas.{kept-due}
use Rattle.pm_engine.proofs.SubsLemmas.{rounds-served, stand-with}
use Rattle.pm_engine.proofs.engine.Engine.deliver.Goals as goal

pub returns-clause-delivers : goal.returns-clause-delivers
returns-clause-delivers g c = λ run knows.
    let state = c.args.self.now.state in
    let inventory = state.inventory in
    let olds = subscriptions_of state.subs in
    let news = subscriptions_of c.deliver.new.self.subs in
    let stands = knows.stands in
    let settled = sym knows.settled in (
      _,
      record {
        next = record { history = run.history; settled = run.settled; cursors = cursors_of news };
        posts = _;
        served = rounds-served (record { rounds = all_rounds; posts = all_posts }) inventory run _ state.closing.notices.kept stands.closing.notices.all olds news state.closing.notices.total state.last
            (subst (λ (h : History). AreNoticesFrom inventory 0 (notices_of inventory h) stands.closing.notices.all) settled stands.closing.notices.told)
            (subst (λ (h : History). state.closing.notices.total ≡ length (notices_of inventory h)) settled stands.closing.notices.total)
            stands.last (stand-with olds run.history run.cursors stands.subs knows.served)
            (λ moment later. kept-due inventory run.history state.closing.notices stands.closing.notices moment 0 later)
            c.deliver.ensures.rounds refl;
        posted = c.deliver.ensures.posted;
        knows = record { stands = c.deliver.ensures.stays run.history stands; served = refl; settled = knows.settled };
      },
      c.deliver.ensures.counted,
    )
