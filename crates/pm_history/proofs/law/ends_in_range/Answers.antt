use Rattle.pm_history.proofs.RangeLemmas.{ends-in_range}
use Rattle.pm_history.proofs.law.ends_in_range.Goals as goal

pub returns : goal.returns
returns c = ends-in_range
