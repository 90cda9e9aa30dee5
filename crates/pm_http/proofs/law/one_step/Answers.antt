use Rattle.pm_http.proofs.StreamLawLemmas.{step_is_one}
use Rattle.pm_http.proofs.law.one_step.Goals as goal

pub returns : goal.returns
returns c = step_is_one
