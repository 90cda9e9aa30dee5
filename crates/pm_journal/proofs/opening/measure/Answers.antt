use Rattle.pm_disk.proofs.MomentLemmas.{look_on}
use Rattle.pm_journal.proofs.OpeningLemmas.{stays_at_sync}
use Rattle.pm_journal.proofs.opening.measure.Goals as goal

pub returns-in_err-sync-clause-untouched : goal.returns-in_err-sync-clause-untouched
returns-in_err-sync-clause-untouched g c = λ told.
    stays_at_sync c.args.area _ _ _ (g.met.D.Disk.reads_image c.args.disk.now c.args.area told) (c.sync.ensures.told told)

pub returns-clause-untouched : goal.returns-clause-untouched
returns-clause-untouched g c = λ told.
    look_on _ _ _ _ (c.len.ensures.told told) (stays_at_sync c.args.area _ _ _ (g.met.D.Disk.reads_image c.args.disk.now c.args.area told) (c.sync.ensures.told told))
