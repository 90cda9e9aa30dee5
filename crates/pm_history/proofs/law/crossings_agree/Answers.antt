use Rattle.pm_history.proofs.CrossedLemmas.{crosses_up-is, crosses_down-is}
use Rattle.pm_history.proofs.law.crossings_agree.Goals as goal

pub returns : goal.returns
returns c = λ high low values place. (crosses_up-is high low values place, crosses_down-is high low values place)
