use Rattle.std.proofs.Common.{arith}
use Rattle.pm_journal.proofs.StagingLemmas.{cut_made, cut_synced}
use Rattle.pm_journal.proofs.appending.cut_to.Goals as goal

pub returns-in_err-cut-clause-any_moment : goal.returns-in_err-cut-clause-any_moment
returns-in_err-cut-clause-any_moment g c = λ told.
    let clean = c.requires told in
    cut_made c.args.area c.args.to _ _ _ clean.1.clean (omega (arith, clean.1.length, clean.2)) (c.cut.ensures.told told)

pub returns-clause-any_moment : goal.returns-clause-any_moment
returns-clause-any_moment g c = λ told.
    let clean = c.requires told in
    let run = cut_made c.args.area c.args.to _ _ _ clean.1.clean (omega (arith, clean.1.length, clean.2)) (c.cut.ensures.told told) in
    cut_synced c.args.area c.args.to _ _ _ _ run (g.met.D.Disk.reads_image c.cut.new.self c.args.area told) (c.sync.ensures.told told)
