use Rattle.pm_notice.proofs.StandLemmas.{stand-with, stand-without}
use Rattle.pm_notice.proofs.subscriptions.Subscriptions.enact.Goals as goal

pub returns-in-New-clause-stand : goal.returns-in-New-clause-stand
returns-in-New-clause-stand c h cursors moment stand =
    rw (c.insert.ensures, c.in-New.is) (stand-with c.in-New.made c.args.self.now.items.items h cursors moment (rw c.in-New.is at c.requires).0 stand)

pub returns-in-Deleted-clause-stand : goal.returns-in-Deleted-clause-stand
returns-in-Deleted-clause-stand c h cursors moment stand =
    rw (c.remove-gone.ensures.items, c.in-Deleted.is) (stand-without c.args.self.now.items.items c.in-Deleted.place h cursors moment (rw c.in-Deleted.is at c.requires) stand)
