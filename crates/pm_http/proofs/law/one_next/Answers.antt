use Rattle.pm_http.proofs.StreamLawLemmas.{next_is_one}
use Rattle.pm_http.proofs.law.one_next.Goals as goal

pub returns : goal.returns
returns c = next_is_one
