use Rattle.std.proofs.Common.{sym}
use Rattle.pm_history.proofs.StayLemmas.{notices_of-next}
use Rattle.pm_history.proofs.law.notices_grow.Goals as goal

pub returns : goal.returns
returns c = λ terms h e may. (_, sym (notices_of-next terms h e may.later))
