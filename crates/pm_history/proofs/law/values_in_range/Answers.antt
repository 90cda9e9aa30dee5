use Rattle.pm_history.proofs.RangeLemmas.{values-in_range}
use Rattle.pm_history.proofs.law.values_in_range.Goals as goal

pub returns : goal.returns
returns c = values-in_range
