use Rattle.std.proofs.Common.{◌≡◌, sym, ◌∙◌}
use Rattle.pm_history.specs.Notices as history
use Rattle.pm_jobs.specs.State.{ids}
use Rattle.pm_close.specs.MonitorPlans.{told_as}
use Rattle.pm_notify.specs.Tellable.{crossed_in_texts}
use Rattle.pm_notify.proofs.ToldLemmas.{crossing-told, told-push}
use Rattle.pm_notify.proofs.added.AddedNotices.add_crossing.Goals as goal

pub returns-clause-told : goal.returns-clause-told
returns-clause-told c =
    λ before are tellable.
    let inventory = c.args.inventory.now in
    let old = c.args.self.now in
    let n = c.in-Some-next.number in
    let posted = c.in_ok-notice.notice in
    let x = told_as (ids c.args.jobs.now.monitors) c.args.end c.args.crossing.now in
    let both = sym c.in-Some.is ∙ c.in_ok-crossed.ensures.told tellable in
    let same : c.in-Some.crossed ≡ crossed_in_texts inventory x = cc in
    told-push inventory old.first n before (history.Crossing x) old.notices.items c.add.new.self.notices.items posted c.in-Some-next.ensures.0
    c.in_ok-add.ensures.added are
    (crossing-told inventory n x c.in-Some.crossed posted same c.in_ok-notice.ensures.numbered.0 c.in_ok-notice.ensures.numbered.1
    c.in_ok-notice.ensures.text)
