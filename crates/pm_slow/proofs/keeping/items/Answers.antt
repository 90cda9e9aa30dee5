use Rattle.std.proofs.Common.{◌≡◌, ◌++◌, ◌∙◌, ap, sym, map, take}
use Rattle.std.specs.Option.{option_to_list}
use Rattle.pm_history.specs.History.{history_of}
use Rattle.pm_history.proofs.HistoryLemmas.{history_of-more}
use Rattle.pm_items.specs.Items.{items_of}
use Rattle.pm_slow.proofs.keeping.items.Goals as goal

pub loop-place-preserved : goal.loop-place-preserved
loop-place-preserved c =
    let xs = c.args.history.now in
    let more = history_of-more xs c.loop-place.place c.index-history-place.result c.loop-place-test.true c.index-history-place.is in
    let old = c.loop-place.invariant in
    let next = c.item_of.ensures in
    c.in_ok-push.ensures ∙ ((λ i. old i ++ option_to_list (next i)) ∙ sym (ap items_of more))
