use Rattle.std.proofs.Common.{refl}
use Rattle.pm_journal.proofs.OpeningLemmas.{refresh_begins, refresh_cuts, refresh_writes, refresh_syncs}
use Rattle.pm_journal.proofs.opening.refresh.Goals as goal

pub returns-in_err-cut-clause-any_moment : goal.returns-in_err-cut-clause-any_moment
returns-in_err-cut-clause-any_moment g c = λ told.
    refresh_cuts c.args.area 0 _ _ _ _ (refresh_begins c.args.area _ (c.requires told)) (c.cut.ensures.told told)

pub returns-in_err-write_at-clause-any_moment : goal.returns-in_err-write_at-clause-any_moment
returns-in_err-write_at-clause-any_moment g c = λ told.
    let emptied = refresh_cuts c.args.area 0 _ _ _ _ (refresh_begins c.args.area _ (c.requires told)) (c.cut.ensures.told told) in
    refresh_writes c.args.area _ _ _ _ _ emptied refl (c.write_at.ensures.told told)

pub returns-clause-any_moment : goal.returns-clause-any_moment
returns-clause-any_moment g c = λ told.
    let emptied = refresh_cuts c.args.area 0 _ _ _ _ (refresh_begins c.args.area _ (c.requires told)) (c.cut.ensures.told told) in
    let marked = refresh_writes c.args.area _ _ _ _ _ emptied refl (c.write_at.ensures.told told) in
    refresh_syncs c.args.area _ _ _ _ marked (g.met.D.Disk.reads_image c.write_at.new.self c.args.area told) (c.sync.ensures.told told)
