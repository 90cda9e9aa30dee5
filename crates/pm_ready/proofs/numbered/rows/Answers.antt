use Rattle.std.proofs.Common.{ℕ, List, ◌<◌, length, arith, ◌∙◌}
use Rattle.pm_ready.proofs.StepLemmas.{count_next, vec_len_is}
use Rattle.pm_ready.proofs.numbered.rows.Goals as goal

pub split_at-requires : goal.split_at-requires
split_at-requires c =
    let metrics = c.args.measured.now.metrics in
    let objects : List ℕ = c.args.measured.now.objects.items in
    let i = c.loop-object.object-index in
    let within : i < length objects = rw c.deref-object-items.ensures.value at c.loop-object-test.true in
    let next = count_next metrics.items objects i within in
    let len = c.len-in-loop-object.ensures ∙ vec_len_is metrics in
    let room = c.loop-object.invariant.room in
    omega (arith, next, len, room)
