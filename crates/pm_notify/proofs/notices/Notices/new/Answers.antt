use Rattle.std.proofs.Common.{refl}
use Rattle.pm_notify.proofs.KeptLemmas.{stand-first}
use Rattle.pm_notify.proofs.notices.Notices.new.Goals as goal

pub returns-clause-first : goal.returns-clause-first
returns-clause-first c = λ inventory e. stand-first inventory e _ c.new.ensures.items refl
