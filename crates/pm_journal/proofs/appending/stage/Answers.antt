use Rattle.std.proofs.Common.{◌≡◌, ◌+◌, ℕ, length, ap, ◌∙◌, arith}
use Rattle.pm_journal.proofs.ItemsLemmas.{length-size_bytes}
use Rattle.pm_journal.proofs.StagingLemmas.{staging_begins, staging_writes, staging_syncs}
use Rattle.pm_journal.proofs.appending.stage.Goals as goal

pub returns-in_err-write_at-clause-any_moment : goal.returns-in_err-write_at-clause-any_moment
returns-in_err-write_at-clause-any_moment g c = λ told.
    let clean = c.requires.clean told in
    let four : length c.bytes_of_size-size.result ≡ 4 = ap length c.bytes_of_size-size.ensures ∙ length-size_bytes _ in
    let most : ℕ = c.args.at + 5 + length c.args.bytes.now in
    let begun = staging_begins c.args.area most _ clean.clean (omega (arith, clean.length)) in
    (staging_writes c.args.area most _ _ _ _ _ _ begun (omega (arith, clean.length)) (omega (arith, four)) (c.write_at.ensures.told told)).run

pub returns-in_err-write_at-2-clause-any_moment : goal.returns-in_err-write_at-2-clause-any_moment
returns-in_err-write_at-2-clause-any_moment g c = λ told.
    let clean = c.requires.clean told in
    let four : length c.bytes_of_size-size.result ≡ 4 = ap length c.bytes_of_size-size.ensures ∙ length-size_bytes _ in
    let most : ℕ = c.args.at + 5 + length c.args.bytes.now in
    let begun = staging_begins c.args.area most _ clean.clean (omega (arith, clean.length)) in
    let sized = staging_writes c.args.area most _ _ _ _ _ _ begun (omega (arith, clean.length)) (omega (arith, four)) (c.write_at.ensures.told told) in
    (staging_writes c.args.area most _ _ _ _ _ _ sized (omega (arith, clean.length)) (omega arith) (c.write_at-2.ensures.told told)).run

pub returns-in_err-write_at-3-clause-any_moment : goal.returns-in_err-write_at-3-clause-any_moment
returns-in_err-write_at-3-clause-any_moment g c = λ told.
    let clean = c.requires.clean told in
    let four : length c.bytes_of_size-size.result ≡ 4 = ap length c.bytes_of_size-size.ensures ∙ length-size_bytes _ in
    let most : ℕ = c.args.at + 5 + length c.args.bytes.now in
    let begun = staging_begins c.args.area most _ clean.clean (omega (arith, clean.length)) in
    let sized = staging_writes c.args.area most _ _ _ _ _ _ begun (omega (arith, clean.length)) (omega (arith, four)) (c.write_at.ensures.told told) in
    let filled = staging_writes c.args.area most _ _ _ _ _ _ sized (omega (arith, clean.length)) (omega arith) (c.write_at-2.ensures.told told) in
    (staging_writes c.args.area most _ _ _ _ _ _ filled (omega (arith, clean.length)) (omega arith) (c.write_at-3.ensures.told told)).run

pub returns-clause-any_moment : goal.returns-clause-any_moment
returns-clause-any_moment g c = λ told.
    let clean = c.requires.clean told in
    let four : length c.bytes_of_size-size.result ≡ 4 = ap length c.bytes_of_size-size.ensures ∙ length-size_bytes _ in
    let most : ℕ = c.args.at + 5 + length c.args.bytes.now in
    let begun = staging_begins c.args.area most _ clean.clean (omega (arith, clean.length)) in
    let sized = staging_writes c.args.area most _ _ _ _ _ _ begun (omega (arith, clean.length)) (omega (arith, four)) (c.write_at.ensures.told told) in
    let filled = staging_writes c.args.area most _ _ _ _ _ _ sized (omega (arith, clean.length)) (omega arith) (c.write_at-2.ensures.told told) in
    let closed = staging_writes c.args.area most _ _ _ _ _ _ filled (omega (arith, clean.length)) (omega arith) (c.write_at-3.ensures.told told) in
    staging_syncs c.args.area most _ _ _ _ closed (g.met.D.Disk.reads_image c.write_at-3.new.self c.args.area told) (c.sync.ensures.told told)
