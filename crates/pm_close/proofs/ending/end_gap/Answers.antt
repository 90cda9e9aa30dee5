use Rattle.std.proofs.Common.{◌≡◌, ◌≤◌, ◌<◌, ◌∙◌, length, take, get_or, refl, sym, subst, arith}
use Rattle.std.proofs.lemmas.List.{length-set, take_all, get_or_default}
use Rattle.pm_base.specs.Moment.{tick_of}
use Rattle.pm_history.specs.declared.entry.Entry.TheVariants.{Boot}
use Rattle.pm_history.specs.History.{◌▷◌, last_moment}
use Rattle.pm_history.specs.Ticks.{behind}
use Rattle.pm_jobs.specs.declared.standing.Standing.{Standing}
use Rattle.pm_close.specs.declared.open_job.OpenJob.{OpenJob}
use Rattle.pm_close.specs.OpenJobs.{StandsAt, PlanFits, earlier_parts}
use Rattle.pm_close.specs.DueReports.{AreFiles, files_with}
use Rattle.pm_close.proofs.ResultLemmas.{if_some-map}
use Rattle.pm_close.proofs.ObjectLemmas.{later-more}
use Rattle.pm_close.proofs.PlaceLemmas.{each-more, element-is, element-of}
use Rattle.pm_close.proofs.AddedLemmas.{among-put}
use Rattle.pm_close.proofs.PlansLemmas.{job-stands, job-asked, plan-stands, plan-placed, no-files_behind}
use Rattle.pm_close.proofs.PutLemmas.{puts-file}
use Rattle.pm_close.proofs.ending.end_gap.Goals as goal

pub loop-k-init : goal.loop-k-init
loop-k-init c = record {
  as_many = refl;
  later = λ j d le. refl;
  fits = λ j plan lt. absurd (omega (arith, lt));
  among = λ are. are;
  stands = λ inventory h m ends j plan lt. absurd (omega (arith, lt));
  files = λ inventory h m n ends to none.
      no-files_behind inventory c.args.jobs.now.jobs c.args.open_jobs.now
      (files_with inventory (take 0 c.args.jobs.now.jobs) (h ▷ Boot m)) (tick_of (last_moment h)) n c.args.reports.now.items
      (λ e. refl) none;
}

pub loop-k-preserved : goal.loop-k-preserved
loop-k-preserved c =
    let now = c.loop-k.plans in
    let k = c.loop-k.k in
    let was = c.loop-k.invariant in
    let ended = c.in_ok-due.ensures in
    let job = c.index-open_jobs-k.result in
    let old = get_or now k c.index-plans-k.result in
    let jobs = c.args.jobs.now.jobs in
    let open_jobs = c.args.open_jobs.now in
    let count = c.count-k-end.ensures in
    let as_many = was.as_many in
    let planned = c.requires.fits.as_many in
    let lt : k < length jobs = omega (arith, c.loop-k-test.true, count) in
    let inside : k < length open_jobs = omega (arith, lt, c.requires.paired) in
    let room : k < length now = omega (arith, inside, planned, as_many) in
    let self : k ≤ k = omega arith in
    let job_is : (d : OpenJob) → get_or open_jobs k d ≡ job = λ d. element-is open_jobs k job d inside c.index-open_jobs-k.is in
    let one = element-of jobs k lt in
    let s = one.0 in
    let s_is = one.1 in
    let old_is : get_or c.args.plans.now k old ≡ old = sym (was.later k old self) ∙ get_or_default now k old c.index-plans-k.result room in
    let new = c.end_with_boot.new.plan in
    let put = c.in_ok-put_report.ensures in
    record {
      as_many = length-set now k new ∙ as_many;
      later = later-more c.args.plans.now now k new was.later;
      fits =
          each-more (λ j plan. (d : OpenJob) → PlanFits c.args.kept.now c.args.tick (get_or open_jobs j d) plan) now k new room
          (λ d. subst (λ x. PlanFits c.args.kept.now c.args.tick x new) (sym (job_is d)) ended.fits)
          was.fits;
      among = λ are.
          among-put (length jobs) k c.loop-k.reports.items c.put_report.new.reports.items c.in_ok-due.due lt
          ended.place put (was.among are);
      stands = λ inventory h m ends.
          let g = h ▷ Boot m in
          each-more (λ j plan. (d : Standing) (e : OpenJob) → StandsAt inventory g (get_or jobs j d) c.args.tick
          (earlier_parts (get_or open_jobs j e) plan.earlier) plan) now k new room
          (λ d e.
          plan-placed inventory g c.args.tick jobs open_jobs k s d job e new (s_is d) (job_is e)
          (ended.stands inventory h m s ends.boot (job-stands inventory h jobs k s (s_is s) lt ends.stands)
          (job-asked inventory jobs open_jobs k s job (s_is s) (job_is job) lt ends.asked)
          (plan-stands inventory g (tick_of (last_moment h)) jobs open_jobs c.args.plans.now k s job old (s_is s) (job_is job) old_is lt
          ends.plans_stand)))
          (was.stands inventory h m ends);
      files = λ inventory h m n ends to none.
          let g = h ▷ Boot m in
          let last = tick_of (last_moment h) in
          let stand = job-stands inventory h jobs k s (s_is s) lt ends.stands in
          let asked = job-asked inventory jobs open_jobs k s job (s_is s) (job_is job) lt ends.asked in
          let before = plan-stands inventory g last jobs open_jobs c.args.plans.now k s job old (s_is s) (job_is job) old_is lt
          ends.plans_stand in
          puts-file inventory jobs open_jobs g last n k s job c.loop-k.reports.items c.put_report.new.reports.items c.in_ok-due.due lt
          s_is job_is
          (λ e after le. ended.report inventory h m s ends.boot stand asked before e after (omega (arith, le, to)))
          (if_some-map _ _ c.in_ok-due.due (λ report both. (both.0, omega (arith, both.1, to)))
          (ended.within inventory h m s ends.boot stand asked before))
          ended.place put (was.files inventory h m n ends to none);
    }

pub returns-clause-files : goal.returns-clause-files
returns-clause-files c = λ inventory h m n ends to none.
    let jobs = c.args.jobs.now.jobs in
    let count = c.count-k-end.ensures in
    subst (λ js. AreFiles inventory jobs c.args.open_jobs.now (behind (files_with inventory js (h ▷ Boot m)) (tick_of (last_moment h)) n)
    c.loop-k.reports.items)
    (take_all c.loop-k.k jobs (omega (arith, c.loop-k-test.false, count)))
    (c.loop-k.invariant.files inventory h m n ends to none)
