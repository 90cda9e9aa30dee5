use Rattle.std.proofs.Common.{◌≡◌, take}
use Rattle.pm_history.specs.History.{history_of, last_moment}
use Rattle.pm_slow.proofs.history.last_moment.Given as goal

abbrev pub invariant-loop-entry : goal.invariant-loop-entry
invariant-loop-entry l = l.last ≡ last_moment (history_of (take l.entry-index l.history))
