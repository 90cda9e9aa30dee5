use Rattle.pm_close.proofs.FlagLemmas.{value_at-period}
use Rattle.pm_close.proofs.law.sequences_take_values.Goals as goal

pub returns : goal.returns
returns c = value_at-period
