use Rattle.pm_asked.specs.BodyReading.{job_of, monitor_of}
use Rattle.pm_asked.proofs.BodyLemmas.{said-utf8}
use Rattle.pm_asked.proofs.law.bodies_are_text.Goals as goal

pub returns : goal.returns
returns c = (said-utf8 job_of, said-utf8 monitor_of)
