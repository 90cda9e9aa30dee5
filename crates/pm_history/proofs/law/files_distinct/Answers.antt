use Rattle.pm_history.proofs.DistinctLemmas.{files_of-distinct}
use Rattle.pm_history.proofs.law.files_distinct.Goals as goal

pub returns : goal.returns
returns c = λ terms h. files_of-distinct terms h
