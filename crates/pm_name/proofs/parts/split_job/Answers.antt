use Rattle.std.proofs.Common.{sym, subst}
use Rattle.pm_base.specs.Names.{IsJobId}
use Rattle.pm_name.proofs.PartLemmas.{job_read, no_job}
use Rattle.pm_name.proofs.parts.split_job.Goals as goal

pub returns-then-is_job_id : goal.returns-then-is_job_id
returns-then-is_job_id c =
    let is = subst IsJobId c.split_at.ensures.front (c.is_job_id.ensures.0 c.if-is_job_id.true) in
    rw (c.split_at.ensures.front, c.split_at.ensures.back) (job_read _ _ _ c.in_ok-behind.ensures c.id_length.ensures.value is)

pub returns-else-is_job_id : goal.returns-else-is_job_id
returns-else-is_job_id c =
    no_job _ _ _ c.in_ok-behind.ensures c.id_length.ensures.value c.id_length.ensures.bound (λ is.
    let yes = c.is_job_id.ensures.1 (subst IsJobId (sym c.split_at.ensures.front) is) in
    let is_no = c.if-is_job_id.false in
    cc)
