use Rattle.pm_batch.proofs.NumberLemmas.{open-in_tick}
use Rattle.pm_batch.proofs.law.numbers_of_tick.Goals as goal

pub returns : goal.returns
returns c = open-in_tick
