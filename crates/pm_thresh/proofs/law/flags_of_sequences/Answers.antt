use Rattle.pm_thresh.proofs.CrossingLemmas.{flags_of_sequences}
use Rattle.pm_thresh.proofs.law.flags_of_sequences.Goals as goal

pub returns : goal.returns
returns c = flags_of_sequences
