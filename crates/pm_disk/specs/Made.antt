-- What calls make of a disk that does each of them, or of a failed one nothing that a read shows (this project's own).
use Rattle.std.specs.Prelude.{ℕ, ◌+◌, max, min, Bool, if◌then◌else◌, List, [], ◌∷◌, length, take}
use Rattle.pm_disk.specs.declared.area.Area.{Area}
use Rattle.pm_disk.specs.declared.area.Area.TheVariants.{First, Second}
use Rattle.pm_disk.specs.Area.{AreaState, overwritten, clean}
use Rattle.pm_disk.specs.Moments.{DiskState, Told, of}

-- A call, and whether it was done. A call that only looks changes nothing.
pub data Made : Type 0 where
  Wrote : Area → ℕ → List ℕ → Bool → Made
  CutTo : Area → ℕ → Bool → Made
  Synced : Area → Bool → Made
  Looked : Made

-- The area after a write.
abbrev pub written_to : AreaState → ℕ → List ℕ → Bool → AreaState
written_to area at bytes done = record {
  seen = if done then overwritten area.seen at bytes else area.seen;
  synced = area.synced;
  least = area.least;
  greatest = max area.greatest (at + length bytes);
  written = (at, at + length bytes) ∷ area.written;
}

-- The area after a cut.
abbrev pub cut_to : AreaState → ℕ → Bool → AreaState
cut_to area to done = record {
  seen = if done then take to area.seen else area.seen;
  synced = area.synced;
  least = min area.least to;
  greatest = area.greatest;
  written = area.written;
}

-- The area after a sync.
abbrev pub synced_to : AreaState → Bool → AreaState
synced_to area done = if done then clean area.seen else area

-- The disk with another state of one area.
abbrev pub with_area : DiskState → Area → AreaState → DiskState
with_area disk First area = record { first = area; second = disk.second }
with_area disk Second area = record { first = disk.first; second = area }

-- The moment after this one.
abbrev pub then_state : Told → DiskState → Told
then_state told state = record { now = state; past = told.now ∷ told.past }

-- What the disk tells after a call.
abbrev pub told_after : Told → Made → Told
told_after told (Wrote area at bytes done) = then_state told (with_area told.now area (written_to (of told.now area) at bytes done))
told_after told (CutTo area to done) = then_state told (with_area told.now area (cut_to (of told.now area) to done))
told_after told (Synced area done) = then_state told (with_area told.now area (synced_to (of told.now area) done))
told_after told Looked = told

-- What the disk tells after the calls, the first of them first.
abbrev pub replayed : Told → List Made → Told
replayed told [] = told
replayed told (call ∷ calls) = replayed (told_after told call) calls

-- Two empty areas, of which no call was made.
abbrev pub blank : Told
blank = record { now = record { first = clean []; second = clean [] }; past = [] }
