use Rattle.pm_ledger.proofs.StoreLemmas.{read_tells, read_refuses}
use Rattle.pm_ledger.proofs.ledger.Ledger.next.Goals as goal

pub returns-in-Ok-Some-clause-next : goal.returns-in-Ok-Some-clause-next
returns-in-Ok-Some-clause-next g c = λ told read left at.
    read_tells c.in-Ok-Some.item c.read_item.result _ c.args.self.now c.find.new.self (g.D.Disk.told c.args.disk.now).now (g.D.Disk.told c.find.new.disk).now
    read left c.in-Ok-Some.field-0-is c.read_item.ensures (c.in-Ok-Some.ensures.next told read left at)

pub returns-in-Ok-Some-clause-refused : goal.returns-in-Ok-Some-clause-refused
returns-in-Ok-Some-clause-refused g c =
    read_refuses g.D.Disk.IsTold c.in-Ok-Some.item c.read_item.result _ c.args.self.now c.find.new.self (g.D.Disk.told c.args.disk.now)
    (g.D.Disk.told c.find.new.disk) c.in-Ok-Some.field-0-is c.requires.tied c.read_item.ensures
    (λ told read left at. c.in-Ok-Some.ensures.next told read left at)
