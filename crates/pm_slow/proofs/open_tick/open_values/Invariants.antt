use Rattle.std.proofs.Common.{◌≡◌, ◌≤◌, length, take}
use Rattle.pm_history.specs.History.{history_of}
use Rattle.pm_items.specs.Items.{open_values}
use Rattle.pm_slow.proofs.open_tick.open_values.Given as goal

abbrev pub invariant-loop-place : goal.invariant-loop-place
invariant-loop-place l = record {
  same : l.values.items ≡ open_values l.object l.metric (history_of (take l.place l.history));
  few : length l.values.items ≤ l.place;
}
