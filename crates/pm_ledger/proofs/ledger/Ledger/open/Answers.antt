use Rattle.std.proofs.Common.{refl}
use Rattle.pm_ledger.proofs.StoreLemmas.{moments_keep}
use Rattle.pm_ledger.proofs.ledger.Ledger.open.Goals as goal

pub returns-in-Ok-clause-any_moment : goal.returns-in-Ok-clause-any_moment
returns-in-Ok-clause-any_moment g c = λ told inventory a b all. moments_keep inventory _ refl _ _ a b all (c.open.ensures.any_moment told)

pub returns-in-Err-StoreFault-clause-any_moment : goal.returns-in-Err-StoreFault-clause-any_moment
returns-in-Err-StoreFault-clause-any_moment g c = λ told inventory a b all. moments_keep inventory _ refl _ _ a b all (c.open.ensures.any_moment told)

pub returns-in-Err-Foreign-clause-any_moment : goal.returns-in-Err-Foreign-clause-any_moment
returns-in-Err-Foreign-clause-any_moment g c = λ told inventory a b all. moments_keep inventory _ refl _ _ a b all (c.open.ensures.any_moment told)
