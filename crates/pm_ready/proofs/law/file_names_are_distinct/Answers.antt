use Rattle.pm_ready.proofs.DistinctLemmas.{names-distinct}
use Rattle.pm_ready.proofs.law.file_names_are_distinct.Goals as goal

pub returns : goal.returns
returns c = λ inventory h name i j d lt within one other. names-distinct inventory h name i j d lt within one other
