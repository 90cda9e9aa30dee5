use Rattle.pm_asked.proofs.BodyLemmas.{job_of-is, monitor_of-is}
use Rattle.pm_asked.proofs.law.bodies_read_back.Goals as goal

pub returns : goal.returns
returns c = (job_of-is, monitor_of-is)
