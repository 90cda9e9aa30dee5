use Rattle.std.proofs.Common.{sym, subst}
use Rattle.std.specs.Prelude.{IfOk}
use Rattle.pm_history.specs.History.{◌▷◌}
use Rattle.pm_close.specs.declared.open_monitors_book.MonitorsBooking.{MonitorsBooking}
use Rattle.pm_close.specs.OpenMonitors.{MonitorsOpen}
use Rattle.pm_close.specs.MonitorPlans.{all_enacted}
use Rattle.pm_close.specs.DueReports.{ended_by}
use Rattle.pm_close.proofs.CloserMonitorLemmas.{monitors-reach, boot-open, ends-now, booted}
use Rattle.pm_close.proofs.closer_monitors.book_monitors.Goals as goal

pub book_boot-requires-clause-reach : goal.book_boot-requires-clause-reach
book_boot-requires-clause-reach c =
    monitors-reach c.args.kept.now _ c.args.tick c.args.monitors.now.monitors.items c.requires.later c.requires.go_on

pub returns-then-boot-clause-go_on : goal.returns-then-boot-clause-go_on
returns-then-boot-clause-go_on c = c.in_ok-plans.ensures.go_on c.args.kept.now _ c.requires.go_on

pub returns-then-boot-clause-open : goal.returns-then-boot-clause-open
returns-then-boot-clause-open c = λ inventory h m ends open_monitors.
    let jobs = c.args.jobs.now in
    let items = c.args.monitors.now.monitors.items in
    let plans = c.in_ok-plans.plans.items in
    subst (λ b. MonitorsOpen inventory jobs (h ▷ ended_by b m) (all_enacted items plans)) (sym c.if-boot.true)
    (boot-open inventory jobs h m items plans ends.stands open_monitors
    (λ some. c.in_ok-plans.ensures.open inventory jobs h m
    (booted inventory jobs h m c.args.boot c.args.kept.now c.args.row.now c.args.cut c.args.tick c.if-boot.true ends) some ends.up_to
    open_monitors))

pub returns-clause-open : goal.returns-clause-open
returns-clause-open c = λ inventory h m ends open_monitors.
    subst (λ b. IfOk c.book.result (λ (r : MonitorsBooking). MonitorsOpen inventory c.args.jobs.now (h ▷ ended_by b m)
    (all_enacted c.args.monitors.now.monitors.items r.plans.items)))
    (sym c.if-boot.false)
    (c.book.ensures.open inventory h m
    (ends-now inventory c.args.jobs.now h m c.args.boot c.args.kept.now c.args.row.now c.args.cut c.args.tick c.if-boot.false ends)
    open_monitors)
