use Rattle.pm_notify.proofs.OneLemmas.{notices-one}
use Rattle.pm_notify.specs.Kept.{notices_of}
use Rattle.pm_notify.proofs.law.notices_are_told_once.Goals as goal

pub returns : goal.returns
returns c = λ inventory h one other are others. notices-one inventory 0 (notices_of inventory h) one other are others
