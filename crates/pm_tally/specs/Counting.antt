-- What a tally keeps of the events so far.
use Rattle.std.specs.Prelude.{◌≡◌, ◌+◌, ◌%◌, ◌==◌, ◌<◌, ◌≤◌, ◌++◌, ◌∷◌, [], ℕ, Bool, List, length, All, MatchBool, if◌then◌else◌, slice_set}
use Rattle.std.specs.List.{slice_index_or}
use Rattle.pm_base.specs.Moment.{tick_of}
use Rattle.pm_meas.specs.Cell.{cell_of}
use Rattle.pm_inventory.specs.Slot.{Slot}
use Rattle.pm_events.specs.Event.{last_moment, events_at, registers_each_at, registered_in, values_in}
use Rattle.pm_events.specs.declared.event.Event.{Event}
use Rattle.pm_tally.specs.declared.slot_count.SlotCount.{SlotCount}
use Rattle.pm_tally.specs.declared.counting.Counting.{Counting}

-- An event of this value is counted. It is registered where as many are now seen as the slot registers one of.
pub record IsStep (old : SlotCount) (value : ℕ) (new : SlotCount) (is : Bool) : Type 0 where
  pub registers_each : new.registers_each ≡ old.registers_each
  pub seen : new.seen ≡ (old.seen + 1) % old.registers_each
  pub registered : is ≡ ((old.seen + 1) % old.registers_each == 0)
  pub cell : MatchBool is ((values : List ℕ) → old.cell ≡ cell_of values → length values < 1073741824 → new.cell ≡ cell_of (values ++ value ∷ [])) (new.cell ≡ old.cell)

-- An event is counted at its slot.
pub record CountsEvent (old : Counting) (e : Event) (new : Counting) : Type 0 where
  pub count : SlotCount
  pub is : Bool
  pub counts : new.counts.items ≡ slice_set old.counts.items e.slot count
  pub step : (d : SlotCount) → IsStep (slice_index_or old.counts.items e.slot d) e.value count is
  pub registered : new.registered ≡ (if is then old.registered + 1 else old.registered)
  pub moment : new.moment ≡ e.moment

-- What is kept of the slot at a place in a tick: the fold of its registered values, and how many events it had since the
-- last one that was registered.
pub record KeepsSlot (slots : List Slot) (events : List Event) (tick place : ℕ) (count : SlotCount) : Type 0 where
  pub registers_each : count.registers_each ≡ registers_each_at slots place
  pub seen : count.seen ≡ length (events_at events place tick) % registers_each_at slots place
  pub cell : count.cell ≡ cell_of (values_in slots events place tick)

-- What is kept of a tick.
pub record KeepsTick (slots : List Slot) (events : List Event) (tick registered : ℕ) (counts : List SlotCount) : Type 0 where
  pub many : length counts ≡ length slots
  pub registered_is : registered ≡ registered_in slots events tick
  pub slot : (place : ℕ) (d : SlotCount) → place < length slots → KeepsSlot slots events tick place (slice_index_or counts place d)

-- A tally keeps the moment of the last event, and its tick.
pub record Counts (slots : List Slot) (counting : Counting) (events : List Event) : Type 0 where
  pub moment : counting.moment ≡ last_moment events
  pub ordered : All (λ e. e.moment ≤ counting.moment) events
  pub tick : KeepsTick slots events (tick_of counting.moment) counting.registered counting.counts.items

-- A count of no event, of a slot that registers one of so many.
pub record IsClear (registers_each : ℕ) (count : SlotCount) : Type 0 where
  pub cell : count.cell ≡ cell_of []
  pub seen : count.seen ≡ 0
  pub registers_each_is : count.registers_each ≡ registers_each

-- All counts begin anew.
pub record AreClear (old new : List SlotCount) : Type 0 where
  pub many : length new ≡ length old
  pub slot : (place : ℕ) (d : SlotCount) → place < length old → IsClear (slice_index_or old place d).registers_each (slice_index_or new place d)
