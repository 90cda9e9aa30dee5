-- What a tally does with a further line (this project's own).
use Rattle.std.specs.Prelude.{◌≡◌, ◌<◌, ◌++◌, ℕ, Bool, true, false, List, [], ◌∷◌, length, take, Result, Ok, Err, Some, None}
use Rattle.pm_inventory.specs.Slot.{Slot}
use Rattle.pm_events.specs.Event.{events_of, refusal}
use Rattle.pm_events.specs.declared.event.Event.{Event}
use Rattle.pm_tally.specs.Tally.{ended_lines}
use Rattle.pm_tally.specs.Counting.{Counts}
use Rattle.pm_tally.specs.declared.counting.Counting.{Counting}
use Rattle.pm_tally.specs.declared.tally_end.TallyEnd.{TallyEnd}
use Rattle.pm_tally.specs.declared.tally_end.TallyEnd.TheVariants as end
use Rattle.pm_tally.specs.declared.lines.Fault.{Fault}
use Rattle.pm_tally.specs.declared.lines.Fault.TheVariants as fault
use Rattle.pm_tally.specs.declared.taking.Stop.{Stop}
use Rattle.pm_tally.specs.declared.taking.Stop.TheVariants.{Refused, WriteFault, Memory}

-- How a tally ends that stops at the line of this number.
abbrev pub stop_end : ℕ → Stop → TallyEnd
stop_end place (Refused code) = end.Refused place code
stop_end place WriteFault = end.WriteFault
stop_end place Memory = end.Memory

-- A good line is counted after the earlier events, and another one is refused. The output fails only where the line ends
-- ticks with a value.
abbrev pub TakesLine : List Slot → List Event → List ℕ → Result Unit Stop → Counting → Type 0
TakesLine slots events line (Ok done) counting = (refusal slots events line ≡ None) × Counts slots counting (events ++ events_of slots (line ∷ []))
TakesLine slots events line (Err (Refused code)) counting = refusal slots events line ≡ Some code
TakesLine slots events line (Err WriteFault) counting = (refusal slots events line ≡ None) × (0 < length (ended_lines slots (events ++ events_of slots (line ∷ []))))
TakesLine slots events line (Err Memory) counting = refusal slots events line ≡ None

-- Some of the first bytes of the text were written.
abbrev pub WritesSome : List ℕ → List ℕ → List ℕ → Type 0
WritesSome before text now = (bytes : ℕ) × (now ≡ before ++ take bytes text)

-- What is written goes on to the lines of the ticks that have ended, in a fault by some of the first bytes.
abbrev pub WritesLine : List Slot → List Event → List ℕ → Result Unit Stop → List ℕ → List ℕ → Type 0
WritesLine slots events line (Ok done) before now = now ≡ before ++ ended_lines slots (events ++ events_of slots (line ∷ []))
WritesLine slots events line (Err (Refused code)) before now = now ≡ before ++ ended_lines slots events
WritesLine slots events line (Err WriteFault) before now = WritesSome before (ended_lines slots (events ++ events_of slots (line ∷ []))) now
WritesLine slots events line (Err Memory) before now = WritesSome before (ended_lines slots (events ++ events_of slots (line ∷ []))) now

-- The output failed.
abbrev pub is_write_stop : Result Unit Stop → Bool
is_write_stop (Ok done) = false
is_write_stop (Err (Refused code)) = false
is_write_stop (Err WriteFault) = true
is_write_stop (Err Memory) = false

abbrev pub is_write_failed : Result Unit Fault → Bool
is_write_failed (Ok done) = false
is_write_failed (Err fault.Write) = true
is_write_failed (Err fault.Memory) = false
