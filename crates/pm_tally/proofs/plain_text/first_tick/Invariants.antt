use Rattle.std.proofs.Common.{◌≡◌, ◌<◌, ℕ, [], take}
use Rattle.pm_events.specs.Event.{events_in}
use Rattle.pm_tally.proofs.plain_text.first_tick.Given as goal

abbrev pub invariant-loop-event : goal.invariant-loop-event
invariant-loop-event l = (k : ℕ) → k < l.first → events_in (take l.event-index l.events) k ≡ []
