use Rattle.pm_batch.proofs.LawLemmas.{batch-follows}
use Rattle.pm_batch.proofs.law.batches_follow.Goals as goal

pub returns : goal.returns
returns c = batch-follows
