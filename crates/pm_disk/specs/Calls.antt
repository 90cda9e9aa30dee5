-- The record of a disk in memory: its calls, and the bytes of its writes, one after another (this project's own).
use Rattle.std.specs.Prelude.{ℕ, ◌+◌, List, [], ◌∷◌, take, drop}
use Rattle.pm_disk.specs.declared.call.Call.{Call}
use Rattle.pm_disk.specs.declared.call.Call.TheVariants.{Len, Read, Write, Full, Cut, Sync}
use Rattle.pm_disk.specs.Made.{Made, Wrote, CutTo, Synced, Looked}

-- How many bytes the writes of the record have together.
abbrev pub recorded_bytes : List Call → ℕ
recorded_bytes [] = 0
recorded_bytes (Len area done ∷ calls) = recorded_bytes calls
recorded_bytes (Read area at count done ∷ calls) = recorded_bytes calls
recorded_bytes (Write area at count done ∷ calls) = count + recorded_bytes calls
recorded_bytes (Full area at count ∷ calls) = recorded_bytes calls
recorded_bytes (Cut area to done ∷ calls) = recorded_bytes calls
recorded_bytes (Sync area done ∷ calls) = recorded_bytes calls

-- The calls with the bytes of each write.
abbrev pub calls_made : List Call → List ℕ → List Made
calls_made [] bytes = []
calls_made (Len area done ∷ calls) bytes = Looked ∷ calls_made calls bytes
calls_made (Read area at count done ∷ calls) bytes = Looked ∷ calls_made calls bytes
calls_made (Write area at count done ∷ calls) bytes = Wrote area at (take count bytes) done ∷ calls_made calls (drop count bytes)
calls_made (Full area at count ∷ calls) bytes = Looked ∷ calls_made calls bytes
calls_made (Cut area to done ∷ calls) bytes = CutTo area to done ∷ calls_made calls bytes
calls_made (Sync area done ∷ calls) bytes = Synced area done ∷ calls_made calls bytes

-- What a call other than a write makes.
abbrev pub made_by : Call → Made
made_by (Cut area to done) = CutTo area to done
made_by (Sync area done) = Synced area done
made_by call = Looked

-- The call has no bytes to keep.
abbrev pub IsWithoutBytes : Call → Type 0
IsWithoutBytes (Write area at count done) = ⊥
IsWithoutBytes call = Unit {0}
