use Rattle.std.proofs.Common.{◌≡◌, ◌<◌, length, get_or, ap, ◌∙◌, arith, inl, inr}
use Rattle.std.proofs.lemmas.Bool.{cases_lt}
use Rattle.pm_close.specs.declared.marks.Marks.{Marks}
use Rattle.pm_close.specs.declared.report.OpenReport.{OpenReport}
use Rattle.pm_close.specs.declared.open_job.OpenJob.{OpenJob}
use Rattle.pm_close.proofs.PlaceLemmas.{element-is}
use Rattle.pm_close.proofs.planned.first_needed.Goals as goal

pub loop-job-preserved : goal.loop-job-preserved
loop-job-preserved c =
    let jobs = c.args.jobs.now in
    let k = c.loop-job.job-index in
    let was = c.loop-job.invariant in
    let most = was.most in
    let job = c.job-item.result in
    let lt : k < length jobs = omega (arith, c.loop-job-test.true) in
    let here : (d : OpenJob) → (get_or jobs k d).report.marks.begin ≡ job.report.marks.begin = λ d.
    ap (λ (p : OpenJob). p.report.marks.begin) (element-is jobs k job d lt c.job-item.is) in
    let begin : c.begin.result ≡ job.report.marks.begin =
    c.begin.ensures ∙ (ap (λ (m : Marks). m.begin) c.marks.ensures ∙ ap (λ (r : OpenReport). r.marks.begin) c.report.ensures) in
    let least = c.min-from.ensures in
    record {
      most = omega (arith, least, most);
      begun = λ j d before.
          elim (cases_lt j k) [
            | inl below ↦ let old = was.begun j d below in omega (arith, old, least)
            | inr past ↦
                let at : k ≡ j = omega (arith, past, before) in
                let own = here d in
                let same = ap (λ i. (get_or jobs i d).report.marks.begin) at in
                omega (arith, own, same, begin, least)
          ];
      near = λ n some each.
          let old = was.near n some (λ j d below. each j d (omega (arith, below))) in
          let own = each k job (omega arith) in
          let same = here job in
          omega (arith, old, own, same, begin, least);
    }
