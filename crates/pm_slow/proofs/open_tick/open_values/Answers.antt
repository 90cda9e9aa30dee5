use Rattle.std.proofs.Common.{◌≡◌, ◌++◌, ◌∙◌, ◌≤◌, ap, sym, cond, [], take, true, arith}
use Rattle.pm_history.specs.History.{history_of}
use Rattle.pm_history.specs.Value.{value_where}
use Rattle.pm_history.proofs.HistoryLemmas.{history_of-more}
use Rattle.pm_items.specs.Items.{ends_tick, open_values}
use Rattle.pm_slow.proofs.open_tick.open_values.Goals as goal

pub loop-place-preserved : goal.loop-place-preserved
loop-place-preserved c =
    let xs = c.args.history.now in
    let h = history_of (take c.loop-place.place xs) in
    let e = c.index-history-place.result in
    let more = history_of-more xs c.loop-place.place e c.loop-place-test.true c.index-history-place.is in
    let old = c.loop-place.invariant.same in
    record {
      same = c.in_ok-values.ensures.values
          ∙ ((λ i. cond (ends_tick h e) [] (old i ++ value_where c.args.object c.args.metric (λ tick. true) e)) ∙ sym (ap (open_values c.args.object c.args.metric) more));
      few = omega (arith, c.in_ok-values.ensures.few, c.loop-place.invariant.few);
    }
