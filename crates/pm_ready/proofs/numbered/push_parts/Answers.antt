use Rattle.std.proofs.Common.{◌+◌, drop, arith}
use Rattle.pm_ready.specs.Shape.{terms_of}
use Rattle.pm_ready.proofs.StepLemmas.{tick_next}
use Rattle.pm_ready.proofs.PermittedLemmas.{tick-grows}
use Rattle.pm_ready.proofs.numbered.push_parts.Goals as goal

pub part-requires-clause-in_range : goal.part-requires-clause-in_range
part-requires-clause-in_range c =
    let t = terms_of c.args.shape.now in
    let parts = c.args.parts.now in
    let i = c.loop-values.values-index in
    let next = tick_next t c.loop-values.tick parts i c.values-item.result c.loop-values-test.true in
    let grows = tick-grows t (c.loop-values.tick + c.args.shape.now.granularity) (drop (i + 1) parts) in
    let same = c.loop-values.invariant.next in
    let last = c.requires.in_range in
    omega (arith, next, grows, same, last)
