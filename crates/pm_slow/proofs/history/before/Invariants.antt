use Rattle.std.proofs.Common.{◌≡◌, ◌≤◌, take}
use Rattle.pm_history.specs.History.{history_of, before}
use Rattle.pm_slow.proofs.history.before.Given as goal

abbrev pub invariant-loop-place : goal.invariant-loop-place
invariant-loop-place l = record {
  prefix : history_of (take l.count l.history) ≡ before l.moment (history_of (take l.place l.history));
  within : l.count ≤ l.place;
}
