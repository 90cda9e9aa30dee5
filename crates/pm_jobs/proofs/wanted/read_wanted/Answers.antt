use Rattle.pm_jobs.specs.Content.{job_content, monitor_content}
use Rattle.pm_jobs.proofs.PermittedLemmas.{job_permitted, monitor_permitted}
use Rattle.pm_jobs.proofs.wanted.read_wanted.Goals as goal

pub job_wanted-requires : goal.job_wanted-requires
job_wanted-requires c = job_permitted c.args.bytes.now (job_content c.in_ok-body-in-Job.body) c.in_ok-body-in-Job.ensures

pub monitor_wanted-requires : goal.monitor_wanted-requires
monitor_wanted-requires c = monitor_permitted c.args.bytes.now (monitor_content c.in_ok-body-in-Monitor.body) c.in_ok-body-in-Monitor.ensures
