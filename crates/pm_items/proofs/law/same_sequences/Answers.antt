use Rattle.pm_items.proofs.SoFarLemmas.{same_sequences}
use Rattle.pm_items.proofs.law.same_sequences.Goals as goal

pub returns : goal.returns
returns c = same_sequences
