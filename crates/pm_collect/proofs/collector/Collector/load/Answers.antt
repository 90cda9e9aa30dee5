use Rattle.std.proofs.Common.{ℕ, length, take, drop, ap, ◌∙◌, arith}
use Rattle.pm_collect.specs.Places.{rows_of}
use Rattle.pm_collect.proofs.LoadLemmas.{lies, filled, loaded_text}
use Rattle.pm_collect.proofs.collector.Collector.load.Goals as goal

pub read-requires : goal.read-requires
read-requires g c = λ told.
    let held = c.requires.holds told in
    let here = lies c.args.self.now (g.D.Disk.told c.args.disk.now).now held.0 c.at.result.0.now c.at.result.1 held.1 c.at.ensures.entry.found in
    omega (arith, here.within, ap length c.deref_mut.ensures.value, c.in-Ok.ensures.len)

pub returns-in-Ok-read-clause-loaded : goal.returns-in-Ok-read-clause-loaded
returns-in-Ok-read-clause-loaded g c = λ told files holds.
    let here = lies c.args.self.now (g.D.Disk.told c.args.disk.now).now files c.at.result.0.now c.at.result.1 holds c.at.ensures.entry.found in
    loaded_text (rows_of c.args.self.now.names) files c.args.place c.at.result.0.now c.at.result.1 (g.D.Disk.told c.args.disk.now).now.first.seen c.from_vec.result
    c.at.ensures.entry.row here
    (filled c.from_vec.result c.read.new.buf c.in-Ok.text.items (g.D.Disk.told c.args.disk.now).now.first.seen c.at.result.1.size c.in-Ok.text.len c.at.result.1.offset
    c.from_vec.ensures
    (c.in-Ok-read.ensures.bytes told
    ∙ ap (λ (n : ℕ). take n (drop c.at.result.1.offset (g.D.Disk.told c.args.disk.now).now.first.seen)) (omega (arith, ap length c.deref_mut.ensures.value, c.in-Ok.ensures.len)))
    (omega (arith, c.in-Ok.ensures.len)) here.within)
