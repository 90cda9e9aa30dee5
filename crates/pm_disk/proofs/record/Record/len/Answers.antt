use Rattle.std.proofs.Common.{arith}
use Rattle.pm_disk.proofs.CallsLemmas.{length-calls_made}
use Rattle.pm_disk.proofs.record.Record.len.Goals as goal

pub returns-clause-len : goal.returns-clause-len
returns-clause-len c = omega (arith, length-calls_made c.args.self.now.calls.items c.args.self.now.bytes.items)
