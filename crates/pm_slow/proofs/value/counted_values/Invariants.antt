use Rattle.std.proofs.Common.{◌≡◌, ◌≤◌, ◌&&◌, take, length}
use Rattle.pm_history.specs.History.{history_of}
use Rattle.pm_history.specs.Ticks.{is_within}
use Rattle.pm_history.specs.Counted.{is_counted}
use Rattle.pm_history.specs.Value.{values_where}
use Rattle.pm_slow.specs.Book.{terms_in}
use Rattle.pm_slow.proofs.value.counted_values.Given as goal

abbrev pub invariant-loop-entry : goal.invariant-loop-entry
invariant-loop-entry l = record {
  values : l.values.items ≡ values_where l.object l.metric (λ t. is_within l.first l.ticks t && is_counted (terms_in l.book) (history_of l.history) l.w t) (history_of (take l.entry-index l.history));
  few : length l.values.items ≤ l.entry-index;
}
