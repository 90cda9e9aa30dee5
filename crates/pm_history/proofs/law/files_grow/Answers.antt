use Rattle.std.proofs.Common.{sym}
use Rattle.pm_history.proofs.StayLemmas.{files_of-next}
use Rattle.pm_history.proofs.law.files_grow.Goals as goal

pub returns : goal.returns
returns c = λ terms h e may. (_, sym (files_of-next terms h e may.later))
