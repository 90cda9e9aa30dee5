use Rattle.std.proofs.Common.{◌≡◌, ◌≤◌, ◌<◌, ◌+◌, ◌∙◌, [], length, drop, get_or, sym, ap, subst, arith}
use Rattle.std.proofs.lemmas.List.{length-set, get_or-drop, get_or_default}
use Rattle.pm_jobs.specs.declared.standing.Standing.{Standing}
use Rattle.pm_close.specs.declared.open_job.OpenJob.{OpenJob}
use Rattle.pm_close.specs.declared.report.OpenReport.{OpenReport}
use Rattle.pm_close.specs.Parts.{AreWithin}
use Rattle.pm_close.specs.OpenJobs.{IsAsked, StandsAt, PlanFits, earlier_parts}
use Rattle.pm_close.proofs.ObjectLemmas.{fact-more, later-more}
use Rattle.pm_close.proofs.PlaceLemmas.{each-more, drop-more}
use Rattle.pm_close.proofs.planned.enact_all.Goals as goal

pub loop-k-preserved : goal.loop-k-preserved
loop-k-preserved c =
    let before = c.args.jobs.now in
    let plans = c.args.plans.items in
    let now = c.loop-k.jobs in
    let k = c.loop-k.k in
    let was = c.loop-k.invariant in
    let as_many = was.as_many in
    let rest = was.rest in
    let planned = c.requires.as_many in
    let old = get_or now k c.index-jobs-k.result in
    let new = c.enact.new.self in
    let plan = c.remove-plan.result in
    let room : k < length now = omega (arith, c.loop-k-test.true, c.loop-k.auto.jobs) in
    let inside : k < length before = omega (arith, room, as_many) in
    let self : k ≤ k = omega arith in
    let next : k + 0 ≡ k = omega arith in
    let old_is : (d : OpenJob) → get_or before k d ≡ old = λ d. sym (was.later k d self) ∙ get_or_default now k d c.index-jobs-k.result room in
    let plan_is : get_or plans k plan ≡ plan =
    ap (λ i. get_or plans i plan) (sym next) ∙ (sym (get_or-drop k plans 0 plan) ∙ (ap (λ ps. get_or ps 0 plan) (sym rest)
    ∙ sym c.remove-plan.ensures.value)) in
    record {
      as_many = length-set now k new ∙ as_many;
      rest = c.remove-plan.ensures.items ∙ (ap (drop 1) rest ∙ drop-more k plans);
      later = later-more before now k new was.later;
      stands = λ inventory h tick standing long stand.
          each-more (λ j job. (s : Standing) → StandsAt inventory h (get_or standing j s) tick [] job.report) now k new room
          (λ s. c.enact.ensures.stands inventory h (get_or standing k s) tick
          (subst (λ (x : OpenJob). StandsAt inventory h (get_or standing k s) tick (earlier_parts x plan.earlier) plan) (old_is old)
          (subst (λ (p : OpenReport). StandsAt inventory h (get_or standing k s) tick (earlier_parts (get_or before k old) p.earlier) p) plan_is
          (stand k s old plan (omega (arith, inside, long))))))
          (was.stands inventory h tick standing long stand);
      asked = λ inventory standing long asked.
          each-more (λ j job. (s : Standing) → IsAsked inventory (get_or standing j s) job) now k new room
          (λ s. c.enact.ensures.asked inventory (get_or standing k s)
          (subst (λ (x : OpenJob). IsAsked inventory (get_or standing k s) x) (old_is old) (asked k s old (omega (arith, inside, long)))))
          (was.asked inventory standing long asked);
      fits = λ kept tick fit.
          fact-more (λ (job : OpenJob). PlanFits kept tick job job.report) now k new room
          (c.enact.ensures.fits kept tick
          (subst (λ (x : OpenJob). PlanFits kept tick x plan) (old_is old)
          (subst (λ (p : OpenReport). PlanFits kept tick (get_or before k old) p) plan_is (fit.each k old plan inside))))
          (was.fits kept tick fit);
      within = λ width read.
          fact-more (λ (job : OpenJob). AreWithin width job.measures.items) now k new room
          (subst (λ ms. AreWithin width ms) (sym (ap (λ v. v.items) c.enact.ensures.measures))
          (subst (λ (x : OpenJob). AreWithin width x.measures.items) (old_is old) (read k old inside)))
          (was.within width read);
    }

pub returns-clause-asked : goal.returns-clause-asked
returns-clause-asked c = λ inventory standing long asked k s job lt.
    let as_many = c.loop-k.invariant.as_many in
    c.loop-k.invariant.asked inventory standing long asked k job
    (omega (arith, lt, long, as_many, c.loop-k-test.false, c.loop-k.auto.jobs)) s

pub returns-clause-fits : goal.returns-clause-fits
returns-clause-fits c = λ kept tick fit k job lt.
    let as_many = c.loop-k.invariant.as_many in
    c.loop-k.invariant.fits kept tick fit k job (omega (arith, lt, as_many, c.loop-k-test.false, c.loop-k.auto.jobs))
