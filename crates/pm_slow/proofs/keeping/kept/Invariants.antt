use Rattle.std.proofs.Common.{◌≡◌, ◌≤◌, take}
use Rattle.pm_history.specs.History.{history_of}
use Rattle.pm_items.specs.Items.{kept}
use Rattle.pm_slow.proofs.keeping.kept.Given as goal

abbrev pub invariant-loop-place : goal.invariant-loop-place
invariant-loop-place l = record {
  prefix : history_of (take l.count l.history) ≡ kept (history_of (take l.place l.history));
  within : l.count ≤ l.place;
}
