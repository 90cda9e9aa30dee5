-- What the plain tally finds (this project's own).
use Rattle.std.specs.Prelude.{◌≡◌, ◌<◌, ◌≤◌, ℕ, List, [], length, take, Option, Some, None}
use Rattle.std.specs.List.{slice_index_or}
use Rattle.pm_inventory.specs.Slot.{Slot}
use Rattle.pm_events.specs.Event.{events_of, events_in, registered, refusal}
use Rattle.pm_events.specs.declared.event.Event.{Event}
use Rattle.pm_tally.specs.Tally.{AreGood, good_lines, tally_text}
use Rattle.pm_tally.specs.Outcome.{IsRefused}
use Rattle.pm_tally.specs.declared.plain_events.GoodEvents.{GoodEvents}
use Rattle.pm_tally.specs.declared.plain_events.Refused.{Refused}
use Rattle.pm_tally.specs.declared.tally_end.TallyEnd.{TallyEnd}
use Rattle.pm_tally.specs.declared.tally_end.TallyEnd.TheVariants as end

-- An end that the input alone decides.
abbrev pub IsByRule : TallyEnd → Type 0
IsByRule end.Done = Unit {0}
IsByRule (end.Refused line code) = Unit {0}
IsByRule (end.BadInventory line code) = Unit {0}
IsByRule other = ⊥

-- No tick has more of these events than are registered in one.
abbrev pub AreFew : List Event → Type 0
AreFew events = (tick : ℕ) → length (events_in events tick) ≤ 1073741824

-- The lines are all good, or the one at this place is the first that is refused.
abbrev pub FindsFirst : List Slot → List (List ℕ) → List Event → Option Refused → Type 0
FindsFirst slots lines events None = AreGood slots lines × (events ≡ events_of slots lines)
FindsFirst slots lines events (Some refused) =
    (refused.at < length lines) × (good_lines slots lines ≡ take refused.at lines) × (events ≡ events_of slots (take refused.at lines))
    × (refusal slots events (slice_index_or lines refused.at []) ≡ Some refused.code)

-- What is found among lines.
pub record FindsGood (slots : List Slot) (lines : List (List ℕ)) (good : GoodEvents) : Type 0 where
  pub first : FindsFirst slots lines good.events.items good.refused
  pub registered_are : good.registered.items ≡ registered slots good.events.items
  pub few : AreFew good.registered.items

-- How a tally of lines ends without a fault, of which `first` is the number of the first, and its text.
abbrev pub EndsBy : List Slot → ℕ → List (List ℕ) → List ℕ → TallyEnd → Type 0
EndsBy slots first lines text end.Done = AreGood slots lines × (text ≡ tally_text slots lines)
EndsBy slots first lines text (end.Refused place code) = IsRefused slots first lines place code × (text ≡ tally_text slots lines)
EndsBy slots first lines text other = ⊥
