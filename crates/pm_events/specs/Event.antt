-- Events, and why a line of events is refused (this project's own).
use Rattle.std.specs.Prelude.{◌==◌, ◌+◌, [], ℕ, Bool, List, map, filter, length, fold, nat_le, nat_lt, slice_index_or, Option, Some, None, Result, Ok, Err, if◌then◌else◌}
use Rattle.std.specs.List.{filter_map}
use Rattle.pm_base.specs.Moment.{tick_of}
use Rattle.pm_base.specs.declared.code.Code.{Code}
use Rattle.pm_base.specs.declared.code.Code.TheVariants.{E1, E2, E3, E4, E5}
use Rattle.pm_meas.specs.declared.cell.TheConstants.{MAX_VALUE}
use Rattle.pm_meas.specs.Registered as rule
use Rattle.pm_inventory.specs.Slot.{Slot, slot_place}
use Rattle.pm_events.specs.EventLine.{LineEvent, event_line}
use Rattle.pm_events.specs.declared.event.Event.{Event}
use Rattle.pm_events.specs.declared.event.TheConstants.{MOST_REGISTERED}

-- The event of a slot, whose value is at most `MAX_VALUE`.
abbrev pub event_in_slot : LineEvent → Option ℕ → Result Event Code
event_in_slot e None = Err E2
event_in_slot e (Some slot) = if nat_le e.value MAX_VALUE then Ok (record { moment = e.moment; slot = slot; value = e.value }) else Err E3

-- What a line says, once its words were read.
abbrev pub event_of : List Slot → Option LineEvent → Result Event Code
event_of slots None = Err E1
event_of slots (Some e) = event_in_slot e (slot_place slots e.object e.metric)

-- What a line says by itself: an event, or E1 where it hasn't the form, E2 where there is no such slot, E3 where the value
-- is too great.
abbrev pub read_event : List Slot → List ℕ → Result Event Code
read_event slots line = event_of slots (event_line line)

-- The event, where a line has one.
abbrev pub event_of_result : Result Event Code → Option Event
event_of_result (Ok e) = Some e
event_of_result (Err code) = None

-- The events of lines, in order.
abbrev pub events_of : List Slot → List (List ℕ) → List Event
events_of slots lines = filter_map (λ line. event_of_result (read_event slots line)) lines

-- The moment of the last event, and 0 of none.
abbrev pub last_moment : List Event → ℕ
last_moment events = fold (λ _ e. e.moment) 0 events

-- The events of a tick.
abbrev pub events_in : List Event → ℕ → List Event
events_in events tick = filter (λ e. tick_of e.moment == tick) events

-- The events of a slot in a tick.
abbrev pub events_at : List Event → ℕ → ℕ → List Event
events_at events slot tick = filter (λ e. e.slot == slot) (events_in events tick)

-- Of how many events of a tick the slot at this place registers one.
abbrev pub registers_each_at : List Slot → ℕ → ℕ
registers_each_at slots place = slice_index_or (map (λ slot. slot.registers_each) slots) place 1

-- Of how many events of a tick the slot of the event registers one.
abbrev pub n_of : List Slot → Event → ℕ
n_of slots e = registers_each_at slots e.slot

-- The number of an event after earlier ones: in each tick the events of a slot are numbered from 1.
abbrev pub number_after : List Event → Event → ℕ
number_after earlier e = length (events_at earlier e.slot (tick_of e.moment)) + 1

-- Whether the event is registered after earlier ones.
abbrev pub is_registered : List Slot → List Event → Event → Bool
is_registered slots earlier e = rule.is_registered (n_of slots e) (number_after earlier e)

abbrev pub registered_one : List Slot → List Event → Event → List Event
registered_one slots earlier e = rule.registered_one (n_of slots) number_after earlier e

-- The events that are registered.
abbrev pub registered : List Slot → List Event → List Event
registered slots events = rule.registered_after (n_of slots) number_after [] events

-- The registered values of a slot in a tick, in order.
abbrev pub values_in : List Slot → List Event → ℕ → ℕ → List ℕ
values_in slots events slot tick = map (λ e. e.value) (events_at (registered slots events) slot tick)

-- How many events are registered in a tick.
abbrev pub registered_in : List Slot → List Event → ℕ → ℕ
registered_in slots events tick = length (events_in (registered slots events) tick)

-- Why an event is refused after earlier ones: E5 where its moment falls, E4 where its tick is full.
abbrev pub order_refusal : List Slot → List Event → Event → Option Code
order_refusal slots earlier e =
    if nat_lt e.moment (last_moment earlier) then Some E5
    else (if nat_le MOST_REGISTERED (registered_in slots earlier (tick_of e.moment)) then Some E4 else None)

-- Why what a line says is refused after earlier events.
abbrev pub refusal_of : List Slot → List Event → Result Event Code → Option Code
refusal_of slots earlier (Err code) = Some code
refusal_of slots earlier (Ok e) = order_refusal slots earlier e

-- Why a line is refused after earlier events: the first rule broken of E1, E2, E3, E5 and E4; none where it is good.
abbrev pub refusal : List Slot → List Event → List ℕ → Option Code
refusal slots earlier line = refusal_of slots earlier (read_event slots line)
