use Rattle.pm_ledger.proofs.StoreLemmas.{of_first, found_first, garbled_in, moments_keep}
use Rattle.pm_ledger.proofs.ledger.Ledger.find.Goals as goal

pub returns-in-Ok-clause-next : goal.returns-in-Ok-clause-next
returns-in-Ok-clause-next g c = λ told read left at.
    found_first _ c.args.self.now.area _ _ _ _ _ read left (c.in-Ok.ensures.next told read left (of_first _ c.args.self.now.area c.args.self.now _ read left at))

pub returns-in-Ok-clause-any_moment : goal.returns-in-Ok-clause-any_moment
returns-in-Ok-clause-any_moment g c = λ told inventory a b all. moments_keep inventory _ c.args.self.now.area _ _ a b all (c.next.ensures.any_moment told)

pub returns-in-Err-StoreFault-clause-any_moment : goal.returns-in-Err-StoreFault-clause-any_moment
returns-in-Err-StoreFault-clause-any_moment g c = λ told inventory a b all. moments_keep inventory _ c.args.self.now.area _ _ a b all (c.next.ensures.any_moment told)

pub returns-in-Err-Garbled-clause-any_moment : goal.returns-in-Err-Garbled-clause-any_moment
returns-in-Err-Garbled-clause-any_moment g c = λ told inventory a b all. moments_keep inventory _ c.args.self.now.area _ _ a b all (c.next.ensures.any_moment told)

pub returns-in-Err-Memory-clause-any_moment : goal.returns-in-Err-Memory-clause-any_moment
returns-in-Err-Memory-clause-any_moment g c = λ told inventory a b all. moments_keep inventory _ c.args.self.now.area _ _ a b all (c.next.ensures.any_moment told)

pub returns-in-Err-Garbled-clause-refused : goal.returns-in-Err-Garbled-clause-refused
returns-in-Err-Garbled-clause-refused g c = garbled_in g.D.Disk.IsTold c.args.self.now _ _ _ _ _ c.in-Err-Garbled.field-0-is c.in-Err-Garbled.ensures.refused
