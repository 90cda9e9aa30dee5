-- How a tally ends, and what it has written then (this project's own).
use Rattle.std.specs.Prelude.{◌≡◌, ◌+◌, ◌<◌, ◌≤◌, ◌⊎◌, ℕ, List, [], ◌∷◌, ◌++◌, length, All, Some}
use Rattle.pm_base.specs.Lines.{HasNoLineFeed, HasNoLine, lines_of}
use Rattle.pm_base.specs.declared.code.Code.{Code}
use Rattle.pm_outside.specs.Feed.{MOST_AHEAD}
use Rattle.pm_outside.specs.declared.feed.TheConstants.{MOST_READ}
use Rattle.pm_inventory.specs.Slot.{Slot, event_slots}
use Rattle.pm_events.specs.Event.{events_of, refusal}
use Rattle.pm_base.specs.WholeLines.{text_of_lines}
use Rattle.pm_inventory.specs.Inventory.{InventoryState}
use Rattle.pm_inventory.specs.InventoryReading.{IsInventoryOf, IsInventoryRefusal, AddsLines, BreaksNone, empty_inventory}
use Rattle.pm_base.specs.WholeLines.{TakesLines}
use Rattle.pm_inventory.specs.declared.inventory_reading.InventoryError.{InventoryError}
use Rattle.pm_inventory.specs.declared.inventory_reading.InventoryError.TheVariants as error
use Rattle.pm_tally.specs.Tally.{AreGood, good_lines, ended_lines, tally_text}
use Rattle.pm_tally.specs.Taking.{WritesSome}
use Rattle.pm_tally.specs.declared.tally_end.TallyEnd.{TallyEnd}
use Rattle.pm_tally.specs.declared.tally_end.TallyEnd.TheVariants.{Done, Refused, TooLong, ReadFault, WriteFault, BadInventory, Memory}

-- What was written to an output before a call and after it, where it tells.
pub record Output : Type 1 where
  pub IsTold : Type 0
  pub before : List ℕ
  pub after : List ℕ

-- The output gained exactly these bytes.
abbrev pub Gains : Output → List ℕ → Type 0
Gains output bytes = output.IsTold → output.after ≡ output.before ++ bytes

-- The output gained a prefix of these bytes.
abbrev pub GainsPrefix : Output → List ℕ → Type 0
GainsPrefix output bytes = output.IsTold → WritesSome output.before bytes output.after

-- A call on an input: how many of its bytes come before, the bytes that it goes on with, those that the source has left after
-- the call, and the output.
pub record Run : Type 1 where
  pub given : ℕ
  pub bytes : List ℕ
  pub left : List ℕ
  pub output : Output

abbrev pub ran : ℕ → List ℕ → List ℕ → Type 0 → List ℕ → List ℕ → Run
ran given bytes left IsTold before after =
    record { given = given; bytes = bytes; left = left; output = record { IsTold = IsTold; before = before; after = after } }

-- The first line that is refused. The number of a line is its place in the input, from 1, and `first` that of the first of
-- these lines.
pub record IsRefused (slots : List Slot) (first : ℕ) (lines : List (List ℕ)) (place : ℕ) (code : Code) : Type 0 where
  pub line : List ℕ
  pub rest : List (List ℕ)
  pub split : lines ≡ good_lines slots lines ++ line ∷ rest
  pub refused : refusal slots (events_of slots (good_lines slots lines)) line ≡ Some code
  pub numbered : place ≡ length (good_lines slots lines) + first

-- The bytes are these lines, each with its line feed, then the beginning of one that may go on, and the rest.
pub record BreaksOff (bytes : List ℕ) (lines : List (List ℕ)) (rest : List ℕ) : Type 0 where
  pub ones : All HasNoLineFeed lines
  pub open_line : List ℕ
  pub may_go_on : HasNoLine open_line
  pub split : bytes ≡ text_of_lines lines ++ (open_line ++ rest)

-- What was read before the rest is good, as far as it is whole lines, and what they ended was written.
pub record IsStopped (slots : List Slot) (run : Run) (rest : List ℕ) : Type 0 where
  pub lines : List (List ℕ)
  pub breaks_off : BreaksOff run.bytes lines rest
  pub good : AreGood slots lines
  pub gains : Gains run.output (ended_lines slots (events_of slots lines))

-- As many bytes were read as are read at the most.
pub record IsTooLong (slots : List Slot) (run : Run) : Type 0 where
  pub rest : List ℕ
  pub reached : run.given + length run.bytes ≡ MOST_READ + length rest
  pub stopped : IsStopped slots run rest

-- The lines that were read are good: all that the source gave but what was read ahead. Some prefix of what would have been
-- written was.
pub record IsInterrupted (slots : List Slot) (run : Run) : Type 0 where
  pub read : List (List ℕ)
  pub ahead : List ℕ
  pub few : length ahead ≤ MOST_AHEAD
  pub taken : TakesLines run.bytes read (ahead ++ run.left)
  pub good : AreGood slots read
  pub gains : GainsPrefix run.output (tally_text slots (lines_of run.bytes))

-- The same, and the lines that were read have a value to write.
pub record IsUnwritten (slots : List Slot) (run : Run) : Type 0 where
  pub interrupted : IsInterrupted slots run
  pub some : 0 < length (tally_text slots interrupted.read)

-- How the tally of the lines after an inventory ends, of which `first` is the number of the first.
abbrev pub IsTallied : List Slot → ℕ → Run → TallyEnd → Type 0
IsTallied slots first run Done =
    (run.given + length run.bytes < MOST_READ) × AreGood slots (lines_of run.bytes) × Gains run.output (tally_text slots (lines_of run.bytes))
IsTallied slots first run (Refused line code) =
    IsRefused slots first (lines_of run.bytes) line code × Gains run.output (tally_text slots (lines_of run.bytes))
IsTallied slots first run TooLong = IsTooLong slots run
IsTallied slots first run ReadFault = IsStopped slots run run.left
IsTallied slots first run WriteFault = IsUnwritten slots run
IsTallied slots first run Memory = IsInterrupted slots run
IsTallied slots first run (BadInventory line code) = ⊥

-- The run on what follows these bytes.
abbrev pub after_bytes : Run → ℕ → List ℕ → Run
after_bytes run given bytes = record { given = given; bytes = bytes; left = run.left; output = run.output }

-- The first lines of the input are those of an inventory, and the tally of the others ends so.
pub record IsTalliedAfter (run : Run) (end : TallyEnd) : Type 0 where
  pub read : List (List ℕ)
  pub rest : List ℕ
  pub inventory : InventoryState
  pub given : ℕ
  pub taken : TakesLines run.bytes read rest
  pub inventory_of : IsInventoryOf read inventory
  pub counted : given + length rest ≡ run.given + length run.bytes
  pub tallied : IsTallied (event_slots inventory) (length read + 1) (after_bytes run given rest) end

-- What was read before the rest are good lines of an inventory, before its `end`, and nothing was written.
pub record IsInInventory (run : Run) (rest : List ℕ) : Type 0 where
  pub lines : List (List ℕ)
  pub breaks_off : BreaksOff run.bytes lines rest
  pub state : InventoryState
  pub adds : AddsLines empty_inventory lines state
  pub gains : Gains run.output []

-- Memory was out before the inventory was read. No line that was read breaks a rule, if one was, and nothing was written.
pub record IsUnread (run : Run) : Type 0 where
  pub ahead : List ℕ
  pub few : length ahead ≤ MOST_AHEAD
  pub unbroken : (run.left ≡ run.bytes) ⊎ BreaksNone run.bytes (ahead ++ run.left)
  pub gains : Gains run.output []

-- As many bytes were read as are read at the most, before the inventory ended.
pub record IsInventoryTooLong (run : Run) : Type 0 where
  pub rest : List ℕ
  pub reached : run.given + length run.bytes ≡ MOST_READ + length rest
  pub inside : IsInInventory run rest

-- How the tally of an input ends.
abbrev pub IsOutcome : Run → TallyEnd → Type 0
IsOutcome run Done = IsTalliedAfter run Done
IsOutcome run (Refused line code) = IsTalliedAfter run (Refused line code)
IsOutcome run TooLong = IsTalliedAfter run TooLong ⊎ IsInventoryTooLong run
IsOutcome run ReadFault = IsTalliedAfter run ReadFault ⊎ IsInInventory run run.left
IsOutcome run WriteFault = IsTalliedAfter run WriteFault
IsOutcome run Memory = IsTalliedAfter run Memory ⊎ IsUnread run
IsOutcome run (BadInventory line code) = IsInventoryRefusal (lines_of run.bytes) line code × Gains run.output []

-- How a tally ends whose inventory is not read.
abbrev pub end_of_inventory : InventoryError → TallyEnd
end_of_inventory (error.Refused line code) = BadInventory line code
end_of_inventory error.Failed = ReadFault
end_of_inventory error.Limit = TooLong
end_of_inventory error.Memory = Memory
