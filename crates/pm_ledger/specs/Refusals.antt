-- When each call of a ledger refuses.
use Rattle.std.specs.Prelude.{ℕ, ◌≡◌, ◌<◌, ◌≤◌, ◌+◌, ◌⊎◌, Bool, true, false, List, [], ◌∷◌, drop, Option, Some, None, Result, Ok, Err}
use Rattle.pm_disk.specs.Moments.{Told}
use Rattle.pm_journal.specs.Opening.{IsForeign}
use Rattle.pm_journal.specs.Reading.{IsGarbled}
use Rattle.pm_store.specs.declared.item.Item1.{Item1}
use Rattle.pm_ledger.specs.declared.error.AddError.{AddError}
use Rattle.pm_ledger.specs.declared.error.AddError.TheVariants as adding
use Rattle.pm_ledger.specs.declared.error.OpenError.{OpenError}
use Rattle.pm_ledger.specs.declared.error.OpenError.TheVariants as opening
use Rattle.pm_ledger.specs.declared.ledger.Ledger.{Ledger}
use Rattle.pm_ledger.specs.declared.ledger.TheConstants.{MOST_BYTES}
use Rattle.pm_ledger.specs.Ledger.{length_of, gate_of, IsAt}
use Rattle.pm_ledger.specs.Stored.{HasText}

-- The answer of `add` is that the disk failed.
abbrev pub add_fails : {T : Type 0} → Result T AddError → Bool
add_fails (Ok value) = false
add_fails (Err adding.StoreFault) = true
add_fails (Err (adding.StoreFull length' need)) = false

-- The answer of `open` or `next` is that the disk failed.
abbrev pub open_fails : {T : Type 0} → Result T OpenError → Bool
open_fails (Ok value) = false
open_fails (Err opening.StoreFault) = true
open_fails (Err opening.Foreign) = false
open_fails (Err (opening.Garbled offset)) = false
open_fails (Err opening.Memory) = false

-- `add` of so many bytes. But for a fault, the ledger and the disk are as before.
abbrev pub RefusesToAdd : (IsTold : Type 0) → ℕ → Ledger → Ledger → Told → Told → AddError → Type 0
RefusesToAdd IsTold count old new told told' adding.StoreFault = length_of old + 5 + count ≤ MOST_BYTES
RefusesToAdd IsTold count old new told told' (adding.StoreFull length' need) =
    (length' ≡ length_of old) × (need ≡ length' + 5 + count) × (MOST_BYTES < need) × (new ≡ old) × (IsTold → told' ≡ told)

-- `open`. A foreign area reads as it did.
abbrev pub RefusesToOpen : (IsTold : Type 0) → Told → Told → OpenError → Type 0
RefusesToOpen IsTold told told' opening.StoreFault = Unit {0}
RefusesToOpen IsTold told told' opening.Foreign =
    IsTold → IsForeign MOST_BYTES told.now.first.seen × (told'.now.first.seen ≡ told.now.first.seen)
RefusesToOpen IsTold told told' (opening.Garbled offset) = ⊥
RefusesToOpen IsTold told told' opening.Memory = ⊥

-- The bytes are those of no item.
abbrev pub IsNoItem : List ℕ → Type 0
IsNoItem bytes = (item : Item1) → HasText item bytes → ⊥

-- What is left begins with bytes that are those of no item.
abbrev pub BeginsBad : List (List ℕ) → Type 0
BeginsBad [] = ⊥
BeginsBad (text ∷ texts) = IsNoItem text

-- `next`: the item at the gate that the ledger has come to doesn't end within the area, or its bytes are those of no item. The area is as
-- it was.
pub record IsGarbledAt (offset : ℕ) (old : Ledger) (told told' : Told) : Type 0 where
  pub at : offset ≡ gate_of old
  pub same : told'.now.first ≡ told.now.first
  pub bad : (read left : List (List ℕ)) → IsAt old told.now read left → IsGarbled (drop (gate_of old) told.now.first.seen) ⊎ BeginsBad left

abbrev pub RefusesNext : (IsTold : Type 0) → Ledger → Told → Told → OpenError → Type 0
RefusesNext IsTold old told told' opening.StoreFault = Unit {0}
RefusesNext IsTold old told told' opening.Foreign = ⊥
RefusesNext IsTold old told told' (opening.Garbled offset) = IsTold → IsGarbledAt offset old told told'
RefusesNext IsTold old told told' opening.Memory = Unit {0}

-- What the bytes of the item whose gate is at this offset say.
abbrev pub IsReading : ℕ → List ℕ → Result (Option Item1) OpenError → Type 0
IsReading offset bytes (Ok None) = ⊥
IsReading offset bytes (Ok (Some item)) = HasText item bytes
IsReading offset bytes (Err opening.StoreFault) = ⊥
IsReading offset bytes (Err opening.Foreign) = ⊥
IsReading offset bytes (Err (opening.Garbled at)) = (at ≡ offset) × IsNoItem bytes
IsReading offset bytes (Err opening.Memory) = Unit {0}
