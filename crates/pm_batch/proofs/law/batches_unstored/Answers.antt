use Rattle.pm_batch.proofs.LawLemmas.{batch-unstored}
use Rattle.pm_batch.proofs.law.batches_unstored.Goals as goal

pub returns : goal.returns
returns c = batch-unstored
