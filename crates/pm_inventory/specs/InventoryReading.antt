-- The lines of an inventory up to its `end`, and the first line that is refused (this project's own).
use Rattle.std.specs.Prelude.{◌≡◌, ◌≢◌, ◌⊎◌, ◌+◌, ◌<◌, ◌≤◌, ◌++◌, ℕ, Bool, true, false, List, [], ◌∷◌, length, Result, Ok, Err}
use Rattle.pm_base.specs.Lines.{MOST_LINE, lines_of}
use Rattle.pm_base.specs.declared.code.Code.{Code}
use Rattle.pm_base.specs.declared.code.Code.TheVariants.{I1, I2, M5, N10}
use Rattle.pm_base.specs.WholeLines.{TakesLines}
use Rattle.pm_inventory.specs.Inventory.{InventoryState, HasRoot, HasSlots, end_line}
use Rattle.pm_inventory.specs.Default.{IsDefault}
use Rattle.pm_inventory.specs.InventoryLine.{AddsLine, RefusesLine}
use Rattle.pm_inventory.specs.declared.inventory_line.LineError.{LineError}
use Rattle.pm_inventory.specs.declared.inventory_line.LineError.TheVariants as stop
use Rattle.pm_inventory.specs.declared.inventory_reading.ReadInventory.{ReadInventory}
use Rattle.pm_inventory.specs.declared.inventory_reading.InventoryError.{InventoryError}
use Rattle.pm_inventory.specs.declared.inventory_reading.InventoryError.TheVariants as error

-- The inventory without an object or a measurement.
abbrev pub empty_inventory : InventoryState
empty_inventory = record { objects = []; measures = [] }

-- A line of at most `MOST_LINE` bytes adds to the state.
pub record AddsShort (old : InventoryState) (line : List ℕ) (new : InventoryState) : Type 0 where
  pub short : length line ≤ MOST_LINE
  pub adds : AddsLine old line new

-- Lines add to a state, one after the other.
abbrev pub AddsLines : InventoryState → List (List ℕ) → InventoryState → Type 0
AddsLines old [] new = new ≡ old
AddsLines old (line ∷ lines) new = (next : InventoryState) × AddsShort old line next × AddsLines next lines new

-- Lines before an `end` make this inventory.
pub record IsWritten (lines : List (List ℕ)) (inventory : InventoryState) : Type 0 where
  pub body : List (List ℕ)
  pub some : 0 < length body
  pub split : lines ≡ body ++ end_line ∷ []
  pub adds : AddsLines empty_inventory body inventory
  pub root : HasRoot inventory.objects
  pub slots : HasSlots inventory.objects inventory.measures

-- The lines are those of the inventory. `end` alone is the default inventory.
abbrev pub IsInventoryOf : List (List ℕ) → InventoryState → Type 0
IsInventoryOf lines inventory = ((lines ≡ end_line ∷ []) × IsDefault inventory) ⊎ IsWritten lines inventory

-- Why `end` is refused behind other lines: N10 without a ManagedElement, else M5 without 1 to 4,096 slots.
abbrev pub RefusesEnd : InventoryState → Code → Type 0
RefusesEnd state code =
    ((code ≡ N10) × ¬ HasRoot state.objects)
    ⊎ ((code ≡ M5) × HasRoot state.objects × ¬ HasSlots state.objects state.measures)

-- Why a line is refused behind as many others, which made this state: I1 for over `MOST_LINE` bytes, else by what it says.
abbrev pub RefusesNext : ℕ → InventoryState → List ℕ → Code → Type 0
RefusesNext many state line code =
    ((MOST_LINE < length line) × (code ≡ I1))
    ⊎ (((0 < many) × (line ≡ end_line) × RefusesEnd state code)
    ⊎ ((length line ≤ MOST_LINE) × (line ≢ end_line) × RefusesLine state line (stop.Refused code)))

-- The first lines of the bytes before, as many as that, are good and made this state, and the bytes after are left.
pub record IsReadSoFar (before after : List ℕ) (state : InventoryState) (many : ℕ) : Type 0 where
  pub good : List (List ℕ)
  pub taken : TakesLines before good after
  pub adds : AddsLines empty_inventory good state
  pub counted : many ≡ length good

-- The line of this number, from 1, is the first that is refused.
pub record IsRefusedAt (lines : List (List ℕ)) (number : ℕ) (code : Code) : Type 0 where
  pub good : List (List ℕ)
  pub state : InventoryState
  pub line : List ℕ
  pub behind : List (List ℕ)
  pub split : lines ≡ good ++ line ∷ behind
  pub adds : AddsLines empty_inventory good state
  pub refused : RefusesNext (length good) state line code
  pub numbered : number ≡ length good + 1

-- All lines are good, and the next one is missing.
pub record LacksEnd (lines : List (List ℕ)) (number : ℕ) (code : Code) : Type 0 where
  pub state : InventoryState
  pub adds : AddsLines empty_inventory lines state
  pub code_is : code ≡ I2
  pub numbered : number ≡ length lines + 1

-- The lines make no inventory: the line of this number is refused by this code, or missing.
abbrev pub IsInventoryRefusal : List (List ℕ) → ℕ → Code → Type 0
IsInventoryRefusal lines number code = IsRefusedAt lines number code ⊎ LacksEnd lines number code

-- The first lines of the bytes before, up to an `end`, are those of the inventory, and the bytes after are left.
pub record IsRead (before after : List ℕ) (inventory : InventoryState) (many : ℕ) : Type 0 where
  pub read : List (List ℕ)
  pub taken : TakesLines before read after
  pub inventory_of : IsInventoryOf read inventory
  pub counted : many ≡ length read

-- The first lines of the bytes before are good, none of them an `end`, and the bytes after are left.
pub record IsCutOff (before after : List ℕ) : Type 0 where
  pub good : List (List ℕ)
  pub state : InventoryState
  pub taken : TakesLines before good after
  pub adds : AddsLines empty_inventory good state

-- The first lines of the bytes before break no rule, and the bytes after are left: but for the last they are good, and it is refused
-- by no code.
pub record BreaksNone (before after : List ℕ) : Type 0 where
  pub good : List (List ℕ)
  pub state : InventoryState
  pub line : List ℕ
  pub taken : TakesLines before (good ++ line ∷ []) after
  pub adds : AddsLines empty_inventory good state
  pub unbroken : (code : Code) → ¬ RefusesNext (length good) state line code

-- Of the bytes that are left, an inventory takes the lines up to its `end`, or is refused.
abbrev pub ReadsInventory : List ℕ → List ℕ → Result ReadInventory InventoryError → Type 0
ReadsInventory before after (Ok r) = IsRead before after r.inventory r.lines
ReadsInventory before after (Err (error.Refused number code)) = IsInventoryRefusal (lines_of before) number code
ReadsInventory before after (Err error.Failed) = IsCutOff before after
ReadsInventory before after (Err error.Limit) = IsCutOff before after
ReadsInventory before after (Err error.Memory) = BreaksNone before after

-- What an `end` makes of this state, at the line of this number.
abbrev pub EndsAt : InventoryState → ℕ → Result ReadInventory InventoryError → Type 0
EndsAt state number (Ok r) =
    (r.lines ≡ number)
    × (((number ≡ 1) × IsDefault r.inventory)
    ⊎ ((1 < number) × (r.inventory ≡ state) × HasRoot state.objects × HasSlots state.objects state.measures))
EndsAt state number (Err (error.Refused line code)) = (line ≡ number) × (1 < number) × RefusesEnd state code
EndsAt state number (Err error.Failed) = ⊥
EndsAt state number (Err error.Limit) = ⊥
EndsAt state number (Err error.Memory) = (code : Code) → 1 < number → ¬ RefusesEnd state code

-- What a line that adds nothing makes of the reading, at the line of this number.
abbrev pub stop_error : ℕ → LineError → InventoryError
stop_error number (stop.Refused code) = error.Refused number code
stop_error number stop.Memory = error.Memory

-- The answer is that the source failed.
abbrev pub is_read_failed : Result ReadInventory InventoryError → Bool
is_read_failed (Ok r) = false
is_read_failed (Err error.Failed) = true
is_read_failed (Err (error.Refused number code)) = false
is_read_failed (Err error.Limit) = false
is_read_failed (Err error.Memory) = false
