use Rattle.std.proofs.Common.{◌≡◌, ◌++◌, List, take}
use Rattle.std.specs.List.{enumerate_from}
use Rattle.pm_events.specs.Event.{registered}
use Rattle.pm_events.specs.declared.event.Event.{Event}
use Rattle.pm_tally.proofs.LinesLemmas.{lines_of_slots}
use Rattle.pm_tally.proofs.plain_text.tick_text.Given as goal

abbrev pub invariant-loop-slot : goal.invariant-loop-slot
invariant-loop-slot l = (events : List Event) → l.found ≡ registered l.slots events → l.text.items ≡ l.initial.text.items ++ lines_of_slots l.slots events l.of_tick (take l.slot (enumerate_from 0 l.slots))
