use Rattle.std.proofs.Common.{◌∙◌, ap, sym}
use Rattle.pm_history.specs.Standing.{ids_next, ids_after}
use Rattle.pm_history.proofs.HistoryLemmas.{history_of-more}
use Rattle.pm_slow.proofs.ids.ids_after.Goals as goal

pub loop-entry-preserved : goal.loop-entry-preserved
loop-entry-preserved c =
    let e = c.entry-item.result in
    let more = history_of-more c.args.history.now c.loop-entry.entry-index e c.loop-entry-test.true c.entry-item.is in
    let old = c.loop-entry.invariant in
    c.in_ok-ids.ensures ∙ ((λ i. ids_next c.args.side (old i) e) ∙ sym (ap (ids_after c.args.side) more))
