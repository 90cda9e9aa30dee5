use Rattle.std.proofs.Common.{◌≡◌, take}
use Rattle.pm_history.specs.History.{history_of}
use Rattle.pm_history.specs.Standing.{ids_after}
use Rattle.pm_slow.proofs.ids.ids_after.Given as goal

abbrev pub invariant-loop-entry : goal.invariant-loop-entry
invariant-loop-entry l = l.ids.items ≡ ids_after l.side (history_of (take l.entry-index l.history))
