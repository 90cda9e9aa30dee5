use Rattle.std.proofs.Common.{ℕ, List, ◌<◌, length, arith, ◌∙◌}
use Rattle.pm_ready.proofs.StepLemmas.{count_next, vec_len_is}
use Rattle.pm_ready.proofs.measured.values_of.Goals as goal

pub returns-then-most-count : goal.returns-then-most-count
returns-then-most-count c =
    let metrics = c.args.measured.now.metrics in
    let objects : List ℕ = c.args.measured.now.objects.items in
    let i = c.loop-object.object-index in
    let within : i < length objects = rw c.deref-object-items.ensures.value at c.loop-object-test.true in
    let next = count_next metrics.items objects i within in
    let len = c.len.ensures ∙ vec_len_is metrics in
    let left = c.loop-object.invariant.left in
    let bound = c.loop-object.invariant.within in
    let few = c.if-most-count.true in
    omega (arith, next, len, left, bound, few)

pub loop-object-preserved : goal.loop-object-preserved
loop-object-preserved c =
    let metrics = c.args.measured.now.metrics in
    let objects : List ℕ = c.args.measured.now.objects.items in
    let i = c.loop-object.object-index in
    let within : i < length objects = rw c.deref-object-items.ensures.value at c.loop-object-test.true in
    let next = count_next metrics.items objects i within in
    let len = c.len-count.ensures ∙ vec_len_is metrics in
    let len' = c.len.ensures ∙ vec_len_is metrics in
    let left = c.loop-object.invariant.left in
    let bound = c.loop-object.invariant.within in
    let few = c.if-most-count.false in
    record { within = omega (arith, len, len', bound, few); left = omega (arith, next, len, left) }
