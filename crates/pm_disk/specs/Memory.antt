-- What a disk in memory tells, and which of its calls fail (this project's own).
use Rattle.std.specs.Prelude.{◌≡◌, ◌⊎◌, ◌<◌, ◌≤◌, ◌+◌, ℕ, min, Bool, List, Contains, length, Result}
use Rattle.std.specs.Result.{is_ok}
use Rattle.pm_disk.specs.declared.memory.MemDisk.{MemDisk}
use Rattle.pm_disk.specs.Moments.{Told}
use Rattle.pm_disk.specs.Made.{Made, told_after, replayed, blank}
use Rattle.pm_disk.specs.Record.{made, bytes_kept}

-- Its state now and at each moment since it was made.
abbrev pub told_of : MemDisk → Told
told_of disk = replayed blank (made disk.calls)

-- How often it has failed.
abbrev pub faults_of : MemDisk → ℕ
faults_of disk = disk.faults

-- The numbers of the calls that are to fail, from 1.
abbrev pub fails_of : MemDisk → List ℕ
fails_of disk = disk.fails.items

-- How many bytes its writes may have together.
abbrev pub room_of : MemDisk → ℕ
room_of disk = disk.calls.room

-- How many calls it has recorded.
abbrev pub count_of : MemDisk → ℕ
count_of disk = length (made disk.calls)

-- How many bytes the recorded writes have together.
abbrev pub kept_of : MemDisk → ℕ
kept_of disk = bytes_kept disk.calls

-- The next call isn't begun: the record is full.
abbrev pub IsFull : MemDisk → Type 0
IsFull disk = 65536 ≤ count_of disk

-- The next write isn't begun: the record is full, or the room doesn't hold its bytes beside those of the writes before.
abbrev pub IsRefused : MemDisk → ℕ → Type 0
IsRefused disk count = IsFull disk ⊎ (room_of disk < kept_of disk + count)

-- The number of the next call is one of those that are to fail.
abbrev pub IsToFail : MemDisk → Type 0
IsToFail disk = Contains (fails_of disk) (count_of disk + 1)

-- A call that isn't begun changes nothing that the disk tells. One that is begun makes what a call makes that is done, or
-- what one makes that failed.
pub record Tells {E : Type 0} (stops : Type 0) (call : Bool → Made) (result : Result Unit E) (old new : MemDisk) : Type 0 where
  pub refused : stops → told_of new ≡ told_of old
  pub begun : ¬ stops → told_of new ≡ told_after (told_of old) (call (is_ok result))

-- A call leaves the room and the numbers as they were, and is counted where the record isn't full.
pub record SamePlan (old new : MemDisk) : Type 0 where
  pub fails : fails_of new ≡ fails_of old
  pub room : room_of new ≡ room_of old
  pub count : count_of new ≡ min (count_of old + 1) 65536

-- The bytes of a write are kept where it is begun.
pub record KeepsBytes (count : ℕ) (old new : MemDisk) : Type 0 where
  pub refused : IsRefused old count → kept_of new ≡ kept_of old
  pub begun : ¬ IsRefused old count → kept_of new ≡ kept_of old + count
