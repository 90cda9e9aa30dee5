use Rattle.pm_form.specs.Names.{job_id}
use Rattle.pm_form.proofs.NameLemmas.{same_test, IsJobId-job_id, job_id-IsJobId}
use Rattle.pm_form.proofs.names.is_job_id.Goals as goal

pub returns : goal.returns
returns c =
    let s = c.args.bytes.now in same_test c.is_job_id.result (job_id s) c.is_job_id.ensures (IsJobId-job_id s) (job_id-IsJobId s)
