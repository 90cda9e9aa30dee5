-- When each call of a journal refuses, and what stays after it.
use Rattle.std.specs.Prelude.{◌≡◌, ◌<◌, ◌≤◌, ◌+◌, ℕ, Bool, true, false, List, length, drop, Result, Ok, Err}
use Rattle.pm_disk.specs.declared.area.Area.{Area}
use Rattle.pm_disk.specs.Moments.{Told, Throughout, of}
use Rattle.pm_journal.specs.declared.error.JournalError.{JournalError}
use Rattle.pm_journal.specs.declared.error.JournalError.TheVariants.{StoreFault, Foreign, Garbled, StoreFull, Memory}
use Rattle.pm_journal.specs.declared.journal.Journal.{Journal}
use Rattle.pm_journal.specs.Journal.{area_of, limit_of, length_of, gate_of, IsSpent}
use Rattle.pm_journal.specs.Lists.{KeepsArea}
use Rattle.pm_journal.specs.Opening.{IsForeign}
use Rattle.pm_journal.specs.Reading.{IsGarbled, IsOpenItem}

-- The answer is that the disk failed.
abbrev pub is_store_fault : {T : Type 0} → Result T JournalError → Bool
is_store_fault (Ok value) = false
is_store_fault (Err StoreFault) = true
is_store_fault (Err Foreign) = false
is_store_fault (Err (Garbled offset)) = false
is_store_fault (Err (StoreFull length' need)) = false
is_store_fault (Err Memory) = false

-- `open`. A foreign area reads as it did. One that is fresh and finds no room reads as it did too, and has no image that it
-- didn't have.
abbrev pub RefusesToOpen : (IsTold : Type 0) → ℕ → Area → Told → Told → JournalError → Type 0
RefusesToOpen IsTold limit area old new StoreFault = Unit {0}
RefusesToOpen IsTold limit area old new Foreign =
    IsTold → IsForeign limit (of old.now area).seen × ((of new.now area).seen ≡ (of old.now area).seen)
RefusesToOpen IsTold limit area old new (Garbled offset) = ⊥
RefusesToOpen IsTold limit area old new (StoreFull length' need) =
    (length' ≡ 0) × (need ≡ 9) × (limit < 9) × (IsTold → (length (of old.now area).seen ≤ 9) × Throughout (KeepsArea area old.now) old new)
RefusesToOpen IsTold limit area old new Memory = ⊥

-- `next`. But for a fault, the journal and the disk are as before. Memory comes only where an item is to be handed out.
abbrev pub RefusesNext : (IsTold : Type 0) → Journal → Journal → Told → Told → JournalError → Type 0
RefusesNext IsTold old new told told' StoreFault = IsSpent new
RefusesNext IsTold old new told told' Foreign = ⊥
RefusesNext IsTold old new told told' (Garbled offset) =
    (offset ≡ gate_of old) × (new ≡ old) × (IsTold → (told' ≡ told) × IsGarbled (drop (gate_of old) (of told.now (area_of old)).seen))
RefusesNext IsTold old new told told' (StoreFull length' need) = ⊥
RefusesNext IsTold old new told told' Memory =
    (new ≡ old) × (IsTold → (told' ≡ told) × ((item : List ℕ) × IsOpenItem (drop (gate_of old) (of told.now (area_of old)).seen) item))

-- `append` of so many bytes. But for a fault, the journal and the disk are as before.
abbrev pub RefusesToAppend : (IsTold : Type 0) → ℕ → Journal → Journal → Told → Told → JournalError → Type 0
RefusesToAppend IsTold count old new told told' StoreFault = IsSpent new × (length_of old + 5 + count ≤ limit_of old)
RefusesToAppend IsTold count old new told told' Foreign = ⊥
RefusesToAppend IsTold count old new told told' (Garbled offset) = ⊥
RefusesToAppend IsTold count old new told told' (StoreFull length' need) = (length' ≡ length_of old) × (need ≡ length' + 5 + count) × (limit_of old < need) × (new ≡ old) × (IsTold → told' ≡ told)
RefusesToAppend IsTold count old new told told' Memory = ⊥
