use Rattle.std.proofs.Common.{arith}
use Rattle.pm_store.proofs.DecodeLemmas.{is_read, is_only, is_bad}
use Rattle.pm_store.proofs.decoding.decode.Goals as goal

pub returns-clause-read : goal.returns-clause-read
returns-clause-read c = is_read c.args.bytes.now c.read_item.result (λ i. omega (arith, c.type_inv.bytes i)) c.read_item.ensures

pub returns-clause-only : goal.returns-clause-only
returns-clause-only c = is_only c.args.bytes.now c.read_item.result c.read_item.ensures

pub returns-clause-bad : goal.returns-clause-bad
returns-clause-bad c = is_bad c.args.bytes.now c.read_item.result (λ i. omega (arith, c.type_inv.bytes i)) c.read_item.ensures
