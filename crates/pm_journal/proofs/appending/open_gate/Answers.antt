use Rattle.std.proofs.Common.{arith}
use Rattle.pm_journal.proofs.StagingLemmas.{gate_written, gate_synced, synced_is, opened_is}
use Rattle.pm_journal.proofs.appending.open_gate.Goals as goal

pub returns-in_err-write_at-clause-any_moment : goal.returns-in_err-write_at-clause-any_moment
returns-in_err-write_at-clause-any_moment g c = λ told.
    let clean = c.requires told in
    gate_written c.args.area c.args.gate _ _ _ clean.1.clean (omega (arith, clean.1.length, clean.2)) (c.write_at.ensures.told told)

pub returns-clause-opened : goal.returns-clause-opened
returns-clause-opened g c = λ told.
    let clean = c.requires told in
    synced_is _ _ _ c.sync.result (opened_is c.args.gate _ _ (omega (arith, clean.1.length, clean.2)) (c.in_ok-write_at.ensures.told told).this.seen) (c.sync.ensures.told told).this

pub returns-clause-any_moment : goal.returns-clause-any_moment
returns-clause-any_moment g c = λ told.
    let clean = c.requires told in
    let run = gate_written c.args.area c.args.gate _ _ _ clean.1.clean (omega (arith, clean.1.length, clean.2)) (c.write_at.ensures.told told) in
    gate_synced c.args.area c.args.gate _ _ _ _ run (g.met.D.Disk.reads_image c.write_at.new.self c.args.area told) (c.sync.ensures.told told)
