use Rattle.pm_batch.proofs.ReadingLemmas.{whole-or-refused}
use Rattle.pm_batch.proofs.law.first_is_refused.Goals as goal

pub returns : goal.returns
returns c = whole-or-refused
