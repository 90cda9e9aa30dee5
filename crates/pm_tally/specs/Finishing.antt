-- What a tally does at the end of its input (this project's own).
use Rattle.std.specs.Prelude.{◌≡◌, ◌<◌, ◌++◌, ◌∷◌, [], ℕ, List, length, Some, None}
use Rattle.pm_inventory.specs.Slot.{Slot}
use Rattle.pm_events.specs.Event.{events_of, refusal}
use Rattle.pm_events.specs.declared.event.Event.{Event}
use Rattle.pm_tally.specs.Tally.{ended_lines, all_lines}
use Rattle.pm_tally.specs.Taking.{WritesSome}
use Rattle.pm_tally.specs.declared.tally_end.TallyEnd.{TallyEnd}
use Rattle.pm_tally.specs.declared.tally_end.TallyEnd.TheVariants.{Done, Refused, TooLong, ReadFault, WriteFault, BadInventory, Memory}

-- An end without a refusal.
abbrev pub IsEnd : TallyEnd → Type 0
IsEnd Done = Unit {0}
IsEnd WriteFault = Unit {0}
IsEnd Memory = Unit {0}
IsEnd TooLong = ⊥
IsEnd (Refused place code) = ⊥
IsEnd ReadFault = ⊥
IsEnd (BadInventory line code) = ⊥

-- The output fails at the end only where there is a value to write.
abbrev pub HasText : List Slot → List Event → TallyEnd → Type 0
HasText slots events WriteFault = 0 < length (all_lines slots events)
HasText slots events other = Unit {0}

-- The lines of the last tick are written too, in a fault some of their first bytes.
abbrev pub Finishes : List Slot → List Event → List ℕ → List ℕ → TallyEnd → Type 0
Finishes slots events before now Done = now ≡ before ++ all_lines slots events
Finishes slots events before now WriteFault = WritesSome before (all_lines slots events) now
Finishes slots events before now Memory = WritesSome before (all_lines slots events) now
Finishes slots events before now TooLong = Unit {0}
Finishes slots events before now (Refused place code) = Unit {0}
Finishes slots events before now ReadFault = Unit {0}
Finishes slots events before now (BadInventory line code) = Unit {0}

-- The last line, of this number, is refused, or it is good. The output fails only where there is a value to write.
abbrev pub TakesLast : List Slot → List Event → List ℕ → ℕ → TallyEnd → Type 0
TakesLast slots events line place (Refused at code) = (at ≡ place) × (refusal slots events line ≡ Some code)
TakesLast slots events line place Done = refusal slots events line ≡ None
TakesLast slots events line place WriteFault = (refusal slots events line ≡ None) × (0 < length (all_lines slots (events ++ events_of slots (line ∷ []))))
TakesLast slots events line place Memory = refusal slots events line ≡ None
TakesLast slots events line place TooLong = ⊥
TakesLast slots events line place ReadFault = ⊥
TakesLast slots events line place (BadInventory other code) = ⊥

-- Nothing is written then, or what is at the end.
abbrev pub WritesLast : List Slot → List Event → List ℕ → List ℕ → List ℕ → TallyEnd → Type 0
WritesLast slots events line before now (Refused place code) = now ≡ before ++ ended_lines slots events
WritesLast slots events line before now Done = now ≡ before ++ all_lines slots (events ++ events_of slots (line ∷ []))
WritesLast slots events line before now WriteFault = WritesSome before (all_lines slots (events ++ events_of slots (line ∷ []))) now
WritesLast slots events line before now Memory = WritesSome before (all_lines slots (events ++ events_of slots (line ∷ []))) now
WritesLast slots events line before now TooLong = Unit {0}
WritesLast slots events line before now ReadFault = Unit {0}
WritesLast slots events line before now (BadInventory other code) = Unit {0}

-- An end with a last line.
abbrev pub IsLastEnd : TallyEnd → Type 0
IsLastEnd Done = Unit {0}
IsLastEnd (Refused place code) = Unit {0}
IsLastEnd WriteFault = Unit {0}
IsLastEnd Memory = Unit {0}
IsLastEnd TooLong = ⊥
IsLastEnd ReadFault = ⊥
IsLastEnd (BadInventory line code) = ⊥
