use Rattle.std.proofs.Common.{◌≤◌, take}
use Rattle.pm_history.specs.History.{history_of, last_moment}
use Rattle.pm_slow.specs.First.{IsFrom}
use Rattle.pm_slow.proofs.file.least_moment.Given as goal

abbrev pub invariant-loop-entry : goal.invariant-loop-entry
invariant-loop-entry l = record {
  least : IsFrom l.least (history_of (take l.entry-index l.history));
  within : l.least ≤ last_moment (history_of l.history);
}
