-- The lines of a tally (this project's own).
use Rattle.std.specs.Prelude.{◌≡◌, ◌+◌, ◌*◌, ◌==◌, ℕ, Bool, List, [], ◌∷◌, ◌++◌, length, Option, Some, None, is_none, if◌then◌else◌}
use Rattle.std.specs.List.{flat_map, enumerate_from, range_with_len, join_with_byte}
use Rattle.std.specs.Fmt.{decimal}
use Rattle.pm_base.specs.Moment.{tick_of}
use Rattle.pm_meas.specs.Cell.{reduced}
use Rattle.pm_inventory.specs.Slot.{Slot}
use Rattle.pm_events.specs.Event.{events_of, last_moment, values_in, refusal}
use Rattle.pm_events.specs.declared.event.Event.{Event}

-- A line `MOMENT LDN METRIC VALUE` with its line feed, and nothing where there is no value.
abbrev pub value_line : ℕ → Slot → Option ℕ → List ℕ
value_line moment slot None = []
value_line moment slot (Some value) = join_with_byte 32 (decimal moment ∷ slot.object ∷ slot.metric ∷ decimal value ∷ []) ++ 10 ∷ []

-- The line of a slot with these values in a tick, of which the moment is the tick's first. A slot without values has none.
abbrev pub slot_line : ℕ → Slot → List ℕ → List ℕ
slot_line tick slot [] = []
slot_line tick slot (v ∷ values) = value_line (60 * tick) slot (reduced slot.reduce (v ∷ values))

-- The lines of a tick, in the order of the slots.
abbrev pub tick_lines : List Slot → List Event → ℕ → List ℕ
tick_lines slots events tick = flat_map (λ place. slot_line tick place.1 (values_in slots events place.0 tick)) (enumerate_from 0 slots)

-- The lines of the ticks before this one, in order.
abbrev pub lines_before : List Slot → List Event → ℕ → List ℕ
lines_before slots events tick = flat_map (tick_lines slots events) (range_with_len 0 tick)

-- The lines of the ticks that an event of a later tick follows.
abbrev pub ended_lines : List Slot → List Event → List ℕ
ended_lines slots events = lines_before slots events (tick_of (last_moment events))

-- The lines of all ticks.
abbrev pub all_lines : List Slot → List Event → List ℕ
all_lines slots events = lines_before slots events (tick_of (last_moment events) + 1)

-- The lines before the first one that is refused, behind earlier events.
abbrev pub good_behind : List Slot → List Event → List (List ℕ) → List (List ℕ)
good_behind slots earlier [] = []
good_behind slots earlier (line ∷ lines) =
    if is_none (refusal slots earlier line) then line ∷ good_behind slots (earlier ++ events_of slots (line ∷ [])) lines else []

abbrev pub good_lines : List Slot → List (List ℕ) → List (List ℕ)
good_lines slots lines = good_behind slots [] lines

-- No line is refused.
abbrev pub AreGood : List Slot → List (List ℕ) → Type 0
AreGood slots lines = good_lines slots lines ≡ lines

-- What is written where no fault comes: of the good lines, the lines of all ticks, or where a line is refused, of those that
-- a good line of a later tick ended.
abbrev pub text_of_good : List Slot → Bool → List Event → List ℕ
text_of_good slots all events = if all then all_lines slots events else ended_lines slots events

abbrev pub tally_text : List Slot → List (List ℕ) → List ℕ
tally_text slots lines = text_of_good slots (length (good_lines slots lines) == length lines) (events_of slots (good_lines slots lines))
