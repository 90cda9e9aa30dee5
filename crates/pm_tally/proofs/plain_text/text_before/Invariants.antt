use Rattle.std.proofs.Common.{◌≡◌, List}
use Rattle.pm_events.specs.Event.{registered}
use Rattle.pm_events.specs.declared.event.Event.{Event}
use Rattle.pm_tally.specs.Tally.{lines_before}
use Rattle.pm_tally.proofs.plain_text.text_before.Given as goal

abbrev pub invariant-loop-of_tick : goal.invariant-loop-of_tick
invariant-loop-of_tick l = (events : List Event) → l.found ≡ registered l.slots events → l.text.items ≡ lines_before l.slots events l.of_tick
