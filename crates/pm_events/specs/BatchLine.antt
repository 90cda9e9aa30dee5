-- Lines of a batch of events, of the form `LDN METRIC VALUE` (this project's own). Their moment is that of the request.
use Rattle.std.specs.Prelude.{◌≡◌, ◌+◌, ◌≤◌, ◌&&◌, ◌++◌, ℕ, List, [], ◌∷◌, true, length, nat_le, Option, Some, None, Result, Ok, Err, if◌then◌else◌}
use Rattle.pm_base.specs.Lines.{MOST_LINE}
use Rattle.pm_base.specs.Number.{is_number, is_moment, number_of}
use Rattle.pm_base.specs.Pieces.{words_of}
use Rattle.pm_base.specs.declared.code.Code.{Code}
use Rattle.pm_base.specs.declared.code.Code.TheVariants.{E1, E2, E3}
use Rattle.pm_meas.specs.declared.cell.TheConstants.{MAX_VALUE}
use Rattle.pm_inventory.specs.Slot.{Slot, slot_place}
use Rattle.pm_events.specs.Event.{read_event}
use Rattle.pm_events.specs.declared.event.Event.{Event}
use Rattle.pm_events.specs.declared.hit.Hit.{Hit}

-- What a line of a batch says.
pub record LineValue : Type 0 where
  pub object : List ℕ
  pub metric : List ℕ
  pub value : ℕ

-- What three words say: two names, and a number of 1 to 10 digits.
abbrev pub value_of_words : List (List ℕ) → Option LineValue
value_of_words (object ∷ metric ∷ value ∷ []) =
    if is_number 10 value && (nat_le 1 (length object) && nat_le 1 (length metric))
    then Some (record { object = object; metric = metric; value = number_of value })
    else None
value_of_words _ = None

-- What a line says, however long it is; none where it hasn't the form.
abbrev pub batch_line : List ℕ → Option LineValue
batch_line line = value_of_words (words_of line)

-- The hit of a slot, whose value is at most `MAX_VALUE`.
abbrev pub hit_in_slot : LineValue → Option ℕ → Result Hit Code
hit_in_slot v None = Err E2
hit_in_slot v (Some slot) = if nat_le v.value MAX_VALUE then Ok (record { slot = slot; value = v.value }) else Err E3

-- What a line says, once its words were read.
abbrev pub hit_of : List Slot → Option LineValue → Result Hit Code
hit_of slots None = Err E1
hit_of slots (Some v) = hit_in_slot v (slot_place slots v.object v.metric)

-- What a line says: a hit, or E1 where it hasn't the form, E2 where there is no such slot, E3 where the value is too great.
abbrev pub read_hit : List Slot → List ℕ → Result Hit Code
read_hit slots line = hit_of slots (batch_line line)

-- The event of a hit at a moment, where there is a hit.
abbrev pub event_at : ℕ → Hit → Event
event_at moment hit = record { moment = moment; slot = hit.slot; value = hit.value }

abbrev pub event_of_hit : ℕ → Result Hit Code → Result Event Code
event_of_hit moment (Ok hit) = Ok (event_at moment hit)
event_of_hit moment (Err code) = Err code

-- A line of a batch, with the word of a moment and a space before it, is the line of events that says the same at that moment, or
-- is refused alike. Only a line of events may not be longer than `MOST_LINE`.
abbrev pub AreEventLines : Type 0
AreEventLines =
    (slots : List Slot) (word line : List ℕ) → is_moment word ≡ true → length word + (1 + length line) ≤ MOST_LINE
    → read_event slots (word ++ 32 ∷ line) ≡ event_of_hit (number_of word) (read_hit slots line)
