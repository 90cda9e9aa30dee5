use Rattle.std.proofs.Common.{◌≡◌, ◌≤◌, ◌<◌, ◌+◌, ◌++◌, ◌∙◌, length, take, get_or, sym, ap, subst, arith, append_assoc}
use Rattle.std.proofs.lemmas.List.{length-set, take_all, get_or_default}
use Rattle.std.proofs.lemmas.Option.{get_or_from_slice_get}
use Rattle.pm_history.specs.declared.entry.Entry.TheVariants.{Now}
use Rattle.pm_history.specs.History.{◌▷◌}
use Rattle.pm_history.specs.Files.{file_at}
use Rattle.pm_asked.specs.Asked.{terms_of}
use Rattle.pm_jobs.specs.declared.standing.Standing.{Standing}
use Rattle.pm_close.specs.declared.open_job.OpenJob.{OpenJob}
use Rattle.pm_close.specs.OpenJobs.{StandsAt, PlanFits, earlier_parts}
use Rattle.pm_close.specs.DueReports.{AreFiles, files_with}
use Rattle.pm_close.proofs.ResultLemmas.{if_some-map}
use Rattle.pm_close.proofs.ObjectLemmas.{later-more}
use Rattle.pm_close.proofs.PlaceLemmas.{each-more, element-is, flat_map-take}
use Rattle.pm_close.proofs.AddedLemmas.{adds-file, among-more}
use Rattle.pm_close.proofs.PlansLemmas.{job-stands, job-asked, plan-stands, plan-placed}
use Rattle.pm_close.proofs.ending.end_tick.Goals as goal

pub loop-k-preserved : goal.loop-k-preserved
loop-k-preserved c =
    let now = c.loop-k.plans in
    let k = c.loop-k.k in
    let was = c.loop-k.invariant in
    let ended = c.in_ok-due.ensures in
    let job = c.index-open_jobs-k.result in
    let s = c.at.result.now in
    let old = get_or now k c.index-plans-k.result in
    let jobs = c.args.jobs.now.jobs in
    let open_jobs = c.args.open_jobs.now in
    let count = c.count-k-end.ensures in
    let as_many = was.as_many in
    let planned = c.requires.fits.as_many in
    let lt : k < length jobs = omega (arith, c.loop-k-test.true, count) in
    let inside : k < length open_jobs = omega (arith, lt, c.requires.paired) in
    let room : k < length now = omega (arith, inside, planned, as_many) in
    let self : k ≤ k = omega arith in
    let job_is : (d : OpenJob) → get_or open_jobs k d ≡ job = λ d. element-is open_jobs k job d inside c.index-open_jobs-k.is in
    let s_is : (d : Standing) → get_or jobs k d ≡ s = λ d. get_or_from_slice_get jobs k s d c.at.ensures in
    let old_is : get_or c.args.plans.now k old ≡ old = sym (was.later k old self) ∙ get_or_default now k old c.index-plans-k.result room in
    let new = c.end_tick.new.plan in
    let pushed = c.in_ok-push_report.ensures in
    record {
      as_many = length-set now k new ∙ as_many;
      later = later-more c.args.plans.now now k new was.later;
      fits =
          each-more (λ j plan. (d : OpenJob) → PlanFits c.args.kept.now (c.args.tick + 1) (get_or open_jobs j d) plan) now k new room
          (λ d. subst (λ x. PlanFits c.args.kept.now (c.args.tick + 1) x new) (sym (job_is d)) ended.fits)
          was.fits;
      among = λ are.
          among-more (length jobs) k c.loop-k.reports.items c.push_report.new.reports.items c.in_ok-due.due lt
          (if_some-map _ _ c.in_ok-due.due (λ report both. both.0) ended.place) pushed (was.among are);
      stands = λ inventory h m ends.
          let g = h ▷ Now m in
          each-more (λ j plan. (d : Standing) (e : OpenJob) → StandsAt inventory g (get_or jobs j d) (c.args.tick + 1)
          (earlier_parts (get_or open_jobs j e) plan.earlier) plan) now k new room
          (λ d e. plan-placed inventory g (c.args.tick + 1) jobs open_jobs k s d job e new (s_is d) (job_is e)
          (ended.stands inventory h m ends.now (job-stands inventory h jobs k s (s_is s) lt ends.stands)
          (job-asked inventory jobs open_jobs k s job (s_is s) (job_is job) lt ends.asked)
          (plan-stands inventory g c.args.tick jobs open_jobs c.args.plans.now k s job old (s_is s) (job_is job) old_is lt ends.plans_stand)))
          (was.stands inventory h m ends);
      files = λ inventory h m files ends are.
          let g = h ▷ Now m in
          let end = c.args.tick + 1 in
          subst (λ fs. AreFiles inventory jobs open_jobs fs c.push_report.new.reports.items)
          (append_assoc files (files_with inventory (take k jobs) g end) (file_at (terms_of inventory) g end s.id)
          ∙ ap (λ fs. files ++ fs)
          (sym (flat_map-take (λ (s : Standing). file_at (terms_of inventory) g end s.id) jobs k s lt (s_is s))))
          (adds-file inventory jobs open_jobs g end k s job (files ++ files_with inventory (take k jobs) g end) c.loop-k.reports.items
          c.push_report.new.reports.items c.in_ok-due.due s_is job_is
          (ended.report inventory h m ends.now (job-stands inventory h jobs k s (s_is s) lt ends.stands)
          (job-asked inventory jobs open_jobs k s job (s_is s) (job_is job) lt ends.asked)
          (plan-stands inventory g c.args.tick jobs open_jobs c.args.plans.now k s job old (s_is s) (job_is job) old_is lt ends.plans_stand))
          ended.place pushed (was.files inventory h m files ends are));
    }

pub returns-clause-files : goal.returns-clause-files
returns-clause-files c = λ inventory h m files ends are.
    let jobs = c.args.jobs.now.jobs in
    let count = c.count-k-end.ensures in
    subst (λ js. AreFiles inventory jobs c.args.open_jobs.now (files ++ files_with inventory js (h ▷ Now m) (c.args.tick + 1))
    c.loop-k.reports.items)
    (take_all c.loop-k.k jobs (omega (arith, c.loop-k-test.false, count)))
    (c.loop-k.invariant.files inventory h m files ends are)
