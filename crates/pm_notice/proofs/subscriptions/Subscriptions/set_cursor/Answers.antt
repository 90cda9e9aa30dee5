use Rattle.pm_notice.proofs.StandLemmas.{stand-same, set-cursor, with_cursor-same}
use Rattle.pm_notice.proofs.subscriptions.Subscriptions.set_cursor.Goals as goal

pub returns-clause-set : goal.returns-clause-set
returns-clause-set c =
    set-cursor c.args.place c.args.cursor c.args.self.now.items.items c.index_mut.result.now c.requires c.index_mut.ensures.value

pub returns-clause-stand : goal.returns-clause-stand
returns-clause-stand c h cursors stand =
    let xs = c.args.self.now.items.items in
    rw (set-cursor c.args.place c.args.cursor xs c.index_mut.result.now c.requires c.index_mut.ensures.value)
    (stand-same xs _ h cursors (with_cursor-same c.args.place c.args.cursor xs) stand)
