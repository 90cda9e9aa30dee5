use Rattle.std.proofs.Common.{◌≡◌, ◌≤◌, ◌-◌, subst, arith}
use Rattle.pm_base.specs.Moment.{tick_of}
use Rattle.pm_history.specs.declared.entry.Entry.TheVariants.{Now}
use Rattle.pm_history.specs.History.{◌▷◌, last_moment}
use Rattle.pm_history.specs.Ticks.{behind}
use Rattle.pm_close.specs.OpenJobs.{PlansFit, PlansStand}
use Rattle.pm_close.specs.DueReports.{AreFiles, files_with}
use Rattle.pm_close.proofs.PlansLemmas.{one-tick, behind-next}
use Rattle.pm_close.proofs.ending.end_ticks.Goals as goal

pub loop-t-preserved : goal.loop-t-preserved
loop-t-preserved c =
    let was = c.loop-t.invariant in
    let t = c.loop-t.t in
    let ended = c.in_ok-end_tick.ensures in
    let first = c.end-first.ensures in
    let from = c.loop-t.auto.t in
    let lt = c.loop-t-test.true in
    record {
      fits = ended.fits;
      among = λ are. ended.among (was.among are);
      stands = λ inventory h m ends.
          ended.stands inventory h m
          (one-tick inventory h m c.args.kept.now c.args.row.now c.args.cut c.is_cut-boots.result c.end-first.result t c.args.tick
          c.args.jobs.now.jobs c.args.open_jobs.now c.args.plans.now c.loop-t.plans first from lt c.is_cut-boots.ensures ends
          (was.stands inventory h m ends));
      files = λ inventory h m n ends at none.
          let last = tick_of (last_moment h) in
          let reach = ends.reach in
          let later : last ≤ t = omega (arith, reach, first, from) in
          subst (λ fs. AreFiles inventory c.args.jobs.now.jobs c.args.open_jobs.now fs c.end_tick.new.reports.items)
          (behind-next (files_with inventory c.args.jobs.now.jobs (h ▷ Now m)) last t n later at)
          (ended.files inventory h m (behind (files_with inventory c.args.jobs.now.jobs (h ▷ Now m)) last (t - last))
          (one-tick inventory h m c.args.kept.now c.args.row.now c.args.cut c.is_cut-boots.result c.end-first.result t c.args.tick
          c.args.jobs.now.jobs c.args.open_jobs.now c.args.plans.now c.loop-t.plans first from lt c.is_cut-boots.ensures ends
          (was.stands inventory h m ends))
          (was.files inventory h m (t - last) ends (omega (arith, later)) none));
    }

pub returns-clause-fits : goal.returns-clause-fits
returns-clause-fits c =
    let first = c.end-first.ensures in
    let start : c.end-first.result ≤ c.args.tick = omega (arith, first, c.requires.later) in
    let up = c.loop-t.auto.t-end start in
    let at : c.loop-t.t ≡ c.args.tick = omega (arith, c.loop-t-test.false, up) in
    subst (λ t. PlansFit c.args.kept.now t c.args.open_jobs.now c.loop-t.plans) at c.loop-t.invariant.fits

pub returns-clause-stands : goal.returns-clause-stands
returns-clause-stands c = λ inventory h m ends.
    let first = c.end-first.ensures in
    let start : c.end-first.result ≤ c.args.tick = omega (arith, first, c.requires.later) in
    let up = c.loop-t.auto.t-end start in
    let at : c.loop-t.t ≡ c.args.tick = omega (arith, c.loop-t-test.false, up) in
    subst (λ t. PlansStand inventory (h ▷ Now m) t c.args.jobs.now.jobs c.args.open_jobs.now c.loop-t.plans) at
    (c.loop-t.invariant.stands inventory h m ends)
