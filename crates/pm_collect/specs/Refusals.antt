-- When a file is refused, and what stays after it.
use Rattle.std.specs.Prelude.{◌≡◌, ◌<◌, ◌≤◌, ◌+◌, ℕ, Bool, true, false, List, Result, Ok, Err}
use Rattle.pm_disk.specs.Moments.{Told}
use Rattle.pm_collect.specs.declared.collector.Collector.{Collector}
use Rattle.pm_collect.specs.declared.collector.TheConstants.{MOST_BYTES}
use Rattle.pm_collect.specs.declared.error.CollectError.{CollectError}
use Rattle.pm_collect.specs.declared.error.CollectError.TheVariants.{C1, C2, C4, C3, StoreFault, Foreign, Garbled, StoreFull, Memory}
use Rattle.pm_collect.specs.Maps.{has}
use Rattle.pm_collect.specs.Names.{Stays}
use Rattle.pm_collect.specs.Stored.{IsReportOf}
use Rattle.pm_collect.specs.Places.{item_room}
use Rattle.pm_collect.specs.Collector.{length_of}

-- The answer is that the disk failed.
abbrev pub is_fault : {T : Type 0} → Result T CollectError → Bool
is_fault (Ok value) = false
is_fault (Err C1) = false
is_fault (Err C2) = false
is_fault (Err C4) = false
is_fault (Err C3) = false
is_fault (Err StoreFault) = true
is_fault (Err Foreign) = false
is_fault (Err (Garbled offset)) = false
is_fault (Err (StoreFull length' need)) = false
is_fault (Err Memory) = false

-- The collector and the disk are as before.
pub record IsAsBefore (IsTold : Type 0) (old new : Collector) (before after : Told) : Type 0 where
  pub names : Stays old.names new.names
  pub journal : new.journal ≡ old.journal
  pub disk : IsTold → after ≡ before

-- A file is refused. But for a fault, all is as before.
abbrev pub RefusesFile : (IsTold : Type 0) → List ℕ → List ℕ → Collector → Collector → Told → Told → CollectError → Type 0
RefusesFile IsTold name text old new told told' C4 = (has old.names.wanted name ≡ false) × IsAsBefore IsTold old new told told'
RefusesFile IsTold name text old new told told' C3 = (IsReportOf name text → ⊥) × IsAsBefore IsTold old new told told'
RefusesFile IsTold name text old new told told' StoreFault = length_of old + item_room name text ≤ MOST_BYTES
RefusesFile IsTold name text old new told told' (StoreFull length' need) =
    (length' ≡ length_of old) × (need ≡ length' + item_room name text) × (MOST_BYTES < need) × IsAsBefore IsTold old new told told'
RefusesFile IsTold name text old new told told' Memory = IsAsBefore IsTold old new told told'
RefusesFile IsTold name text old new told told' e = ⊥
