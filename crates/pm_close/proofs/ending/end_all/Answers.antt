use Rattle.std.proofs.Common.{sym, subst, arith}
use Rattle.pm_base.specs.Moment.{tick_of}
use Rattle.pm_history.specs.History.{◌▷◌, last_moment}
use Rattle.pm_history.specs.Ticks.{behind}
use Rattle.pm_close.specs.OpenJobs.{PlansStand}
use Rattle.pm_close.specs.DueReports.{AreFiles, ended_by, files_with}
use Rattle.pm_close.proofs.CloserLemmas.{ticks-of, gap-of}
use Rattle.pm_close.proofs.ending.end_all.Goals as goal

pub returns-in_ok-end_gap-clause-stands : goal.returns-in_ok-end_gap-clause-stands
returns-in_ok-end_gap-clause-stands c = λ inventory h m ends.
    let reach = ends.reach in
    let later = c.requires.later in
    subst (λ b. PlansStand inventory (h ▷ ended_by b m) c.args.tick c.args.jobs.now.jobs c.args.open_jobs.now c.end_gap.new.plans)
    (sym c.if-boot.true)
    (c.in_ok-end_gap.ensures.stands inventory h m
    (gap-of inventory h m c.args.boot c.args.kept.now c.args.row.now c.args.cut c.args.tick c.args.jobs.now.jobs c.args.open_jobs.now
    c.args.plans.now c.if-boot.true (omega (arith, reach, later)) ends))

pub returns-in_ok-end_gap-clause-files : goal.returns-in_ok-end_gap-clause-files
returns-in_ok-end_gap-clause-files c = λ inventory h m n ends to none.
    let reach = ends.reach in
    let later = c.requires.later in
    subst (λ b. AreFiles inventory c.args.jobs.now.jobs c.args.open_jobs.now
    (behind (files_with inventory c.args.jobs.now.jobs (h ▷ ended_by b m)) (tick_of (last_moment h)) n) c.end_gap.new.reports.items)
    (sym c.if-boot.true)
    (c.in_ok-end_gap.ensures.files inventory h m n
    (gap-of inventory h m c.args.boot c.args.kept.now c.args.row.now c.args.cut c.args.tick c.args.jobs.now.jobs c.args.open_jobs.now
    c.args.plans.now c.if-boot.true (omega (arith, reach, later)) ends) to none)

pub returns-in_ok-end_ticks-clause-stands : goal.returns-in_ok-end_ticks-clause-stands
returns-in_ok-end_ticks-clause-stands c = λ inventory h m ends.
    subst (λ b. PlansStand inventory (h ▷ ended_by b m) c.args.tick c.args.jobs.now.jobs c.args.open_jobs.now c.end_ticks.new.plans)
    (sym c.if-boot.false)
    (c.in_ok-end_ticks.ensures.stands inventory h m
    (ticks-of inventory h m c.args.boot c.args.kept.now c.args.row.now c.args.cut c.args.tick c.args.jobs.now.jobs
    c.args.open_jobs.now c.args.plans.now c.if-boot.false ends))

pub returns-in_ok-end_ticks-clause-files : goal.returns-in_ok-end_ticks-clause-files
returns-in_ok-end_ticks-clause-files c = λ inventory h m n ends to none.
    subst (λ b. AreFiles inventory c.args.jobs.now.jobs c.args.open_jobs.now
    (behind (files_with inventory c.args.jobs.now.jobs (h ▷ ended_by b m)) (tick_of (last_moment h)) n) c.end_ticks.new.reports.items)
    (sym c.if-boot.false)
    (c.in_ok-end_ticks.ensures.files inventory h m n
    (ticks-of inventory h m c.args.boot c.args.kept.now c.args.row.now c.args.cut c.args.tick c.args.jobs.now.jobs
    c.args.open_jobs.now c.args.plans.now c.if-boot.false ends) to none)
