use Rattle.std.proofs.Common.{arith}
use Rattle.pm_kpi.proofs.RatioLemmas.{too_many}
use Rattle.pm_kpi.proofs.measures.read_measures.Goals as goal

pub returns : goal.returns
returns c =
    too_many c.args.text.now c.loop-place.names.items c.loop-place.rest.now c.loop-place.invariant.pieces
    (omega (arith, c.loop-place.invariant.count, c.loop-place-test.false))
