use Rattle.std.proofs.Common.{refl, []}
use Rattle.pm_journal.proofs.NextLemmas.{list_ended, keeps_cutting}
use Rattle.pm_journal.proofs.journal.Journal.end.Goals as goal

pub returns-in-Ok-clause-next : goal.returns-in-Ok-clause-next
returns-in-Ok-clause-next g c = λ told given left at. list_ended c.args.self.now _ _ _ given left at (c.requires.closed told) (c.in-Ok.ensures.cut told) refl refl refl

pub returns-in-Ok-clause-any_moment : goal.returns-in-Ok-clause-any_moment
returns-in-Ok-clause-any_moment g c = λ told.
    let tied = c.requires.tied told in
    keeps_cutting c.args.self.now.area _ _ c.args.self.now _ tied.0 tied.1 tied.2 (c.requires.closed told) (g.met.D.Disk.reads_image c.args.disk.now c.args.self.now.area told) refl (c.cut_to.ensures.any_moment told)

pub returns-in-Err-clause-any_moment : goal.returns-in-Err-clause-any_moment
returns-in-Err-clause-any_moment g c = λ told.
    let tied = c.requires.tied told in
    keeps_cutting c.args.self.now.area _ _ c.args.self.now _ tied.0 tied.1 tied.2 (c.requires.closed told) (g.met.D.Disk.reads_image c.args.disk.now c.args.self.now.area told) refl (c.cut_to.ensures.any_moment told)

pub returns-in-Ok-clause-tied : goal.returns-in-Ok-clause-tied
returns-in-Ok-clause-tied g c = λ told.
    let tied = c.requires.tied told in
    (tied.0, [], (list_ended c.args.self.now _ _ _ tied.0 tied.1 tied.2 (c.requires.closed told) (c.in-Ok.ensures.cut told) refl refl refl).at)
