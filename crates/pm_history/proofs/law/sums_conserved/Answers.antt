use Rattle.pm_base.specs.Moment.{tick_of}
use Rattle.pm_history.specs.History.{last_moment}
use Rattle.pm_history.proofs.ConservedLemmas.{conserved}
use Rattle.pm_history.proofs.law.sums_conserved.Goals as goal

pub returns : goal.returns
returns c = λ terms h id place object metric once. conserved terms h id place object metric once (tick_of (last_moment h))
