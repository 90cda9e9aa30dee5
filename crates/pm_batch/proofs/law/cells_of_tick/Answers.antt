use Rattle.pm_batch.proofs.LawLemmas.{tick-cells}
use Rattle.pm_batch.proofs.law.cells_of_tick.Goals as goal

pub returns : goal.returns
returns c = tick-cells
