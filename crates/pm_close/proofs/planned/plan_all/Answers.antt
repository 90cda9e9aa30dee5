use Rattle.std.proofs.Common.{◌≡◌, ◌<◌, ◌+◌, ◌∷◌, ◌∙◌, [], ℕ, length, get_or, sym, ap, subst, arith}
use Rattle.std.proofs.lemmas.List.{length-append}
use Rattle.pm_jobs.specs.declared.standing.Standing.{Standing}
use Rattle.pm_close.specs.declared.open_job.OpenJob.{OpenJob}
use Rattle.pm_close.specs.declared.report.OpenReport.{OpenReport}
use Rattle.pm_close.specs.OpenJobs.{StandsAt, PlanFits, earlier_parts}
use Rattle.pm_close.proofs.PlaceLemmas.{each-push, element-is}
use Rattle.pm_close.proofs.planned.plan_all.Goals as goal

pub loop-k-preserved : goal.loop-k-preserved
loop-k-preserved c =
    let jobs = c.args.jobs.now in
    let k = c.loop-k.k in
    let was = c.loop-k.invariant in
    let job = c.index-jobs-k.result in
    let plan = c.plan.result in
    let before = c.loop-k.plans.items in
    let lt : k < length jobs = omega (arith, c.loop-k-test.true) in
    let job_is : (d : OpenJob) → get_or jobs k d ≡ job = λ d. element-is jobs k job d lt c.index-jobs-k.is in
    let pushed = c.in_ok-push.ensures.items in
    record {
      as_many = ap length pushed ∙ (length-append before (plan ∷ []) ∙ ap (λ n. n + 1) was.as_many);
      fits = λ kept tick fit.
          subst (λ ps. (j : ℕ) (d : OpenReport) → j < k + 1 → (e : OpenJob) → PlanFits kept tick (get_or jobs j e) (get_or ps j d)) (sym pushed)
          (each-push (λ j p. (e : OpenJob) → PlanFits kept tick (get_or jobs j e) p) before plan k was.as_many
          (λ e. subst (λ x. PlanFits kept tick x plan) (sym (job_is e))
          (c.plan.ensures.fits kept tick (subst (λ (x : OpenJob). PlanFits kept tick x x.report) (job_is job) (fit k job lt))))
          (was.fits kept tick fit));
      stands = λ inventory h tick standing long stand.
          subst (λ ps. (j : ℕ) (d : OpenReport) → j < k + 1 → (s : Standing) (e : OpenJob)
          → StandsAt inventory h (get_or standing j s) tick (earlier_parts (get_or jobs j e) (get_or ps j d).earlier) (get_or ps j d))
          (sym pushed)
          (each-push (λ j p. (s : Standing) (e : OpenJob)
          → StandsAt inventory h (get_or standing j s) tick (earlier_parts (get_or jobs j e) p.earlier) p) before plan k was.as_many
          (λ s e. subst (λ x. StandsAt inventory h (get_or standing k s) tick (earlier_parts x plan.earlier) plan) (sym (job_is e))
          (c.plan.ensures.stands inventory h (get_or standing k s) tick
          (subst (λ (x : OpenJob). StandsAt inventory h (get_or standing k s) tick [] x.report) (job_is job)
          (stand k s job (omega (arith, lt, long))))))
          (was.stands inventory h tick standing long stand));
    }

pub returns-clause-fits : goal.returns-clause-fits
returns-clause-fits c = λ kept tick fit.
    let was = c.loop-k.invariant in
    let as_many = was.as_many in
    let up = c.loop-k.auto.k-end in
    record {
      as_many = omega (arith, as_many, up, c.loop-k-test.false);
      each = λ k job plan lt. was.fits kept tick fit k plan (omega (arith, lt, c.loop-k-test.false)) job;
    }
