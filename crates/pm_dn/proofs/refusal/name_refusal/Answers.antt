use Rattle.std.proofs.Common.{arith}
use Rattle.pm_base.proofs.PiecesLemmas.{length-pieces_of}
use Rattle.pm_dn.proofs.refusal.name_refusal.Goals as goal

pub overflow_add-count : goal.overflow_add-count
overflow_add-count c = omega (arith, (length-pieces_of 44 c.args.bytes.now).1)
