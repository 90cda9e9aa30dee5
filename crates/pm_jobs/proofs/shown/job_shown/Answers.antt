use Rattle.pm_jobs.specs.Content.{job_content}
use Rattle.pm_jobs.specs.Shown.{job_shown}
use Rattle.pm_jobs.proofs.WritingLemmas.{printed}
use Rattle.pm_jobs.proofs.shown.job_shown.Goals as goal

pub returns : goal.returns
returns c =
    printed (job_shown c.args.id.now (job_content c.args.body.now)) c.new.result.items c.new-out.result c.write_job_shown.new.out c.into_inner.result.items
    c.from_vec.result c.new.ensures.items c.new-out.ensures.before c.new-out.ensures.tokens c.in_ok-write_job_shown.ensures.ok
    c.in_ok-write_job_shown.ensures.before c.into_inner.ensures.items c.from_vec.ensures
