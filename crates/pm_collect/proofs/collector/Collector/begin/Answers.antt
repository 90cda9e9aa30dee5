use Rattle.std.proofs.Common.{refl}
use Rattle.pm_collect.proofs.ReadLemmas.{moments_keep}
use Rattle.pm_collect.proofs.collector.Collector.begin.Goals as goal

pub returns-in-Ok-clause-any_moment : goal.returns-in-Ok-clause-any_moment
returns-in-Ok-clause-any_moment g c = λ told a b all. moments_keep _ refl _ _ a b all (c.open.ensures.any_moment told)

pub returns-in-Err-clause-any_moment : goal.returns-in-Err-clause-any_moment
returns-in-Err-clause-any_moment g c = λ told a b all. moments_keep _ refl _ _ a b all (c.open.ensures.any_moment told)
